-- The answer of jose-verify-all to whole inputs, and everything that it promises of its devices.
use Rattle.std.specs.Prelude.{◌≡◌, ◌&&◌, false, Result, OnOk, OnErr, IfErr, IsTrue}
use Rattle.std.specs.Result.{result_unwrap_or}
use Rattle.octets.specs.declared.refusal.Refusal.{Refusal}
use Rattle.octets.specs.Devices.{InputMembers, OutputMembers, IsFinishedOnce}
use Rattle.octets.specs.Faults.{TellsFaults}
use Rattle.octets.specs.Outcomes.{AgreesUnlessExternal, is_external}
use Rattle.octets.specs.Plan.{OutputTexts, nothing}
use Rattle.keys.specs.Limits.{limits}
use Rattle.objects.specs.Texts.{handed_in}
use Rattle.tokens.specs.Jws.{ver_least_answer}
use Rattle.jose.specs.declared.ports.Inputs.{Inputs}
use Rattle.jose.specs.declared.ports.Outputs.{Outputs}
use Rattle.jose.specs.Answer.{AreSpared}
use Rattle.jose.specs.Invocations.{Settings}
use Rattle.jose.specs.Meanings.{is_content_given, is_content_wanted}
use Rattle.jose.specs.Ports.{InputTexts, ArePossibleInputs, AppendPrefixesOf, on_content, seen_of, written_texts, input_counts, output_counts}
use Rattle.tools.specs.declared.cause.Cause.{Cause}
use Rattle.tools.specs.declared.words.Signers.{Signers}
use Rattle.tools.specs.Causes.{IsCause, as_refused, refusal_of}

-- ---- the answer (docs/SPECIFICATION.md "Tools")

-- The octets of each output, or the first refusal: that of verifying by at least so many of so many signers. The payload is handed in
-- exactly if `-I` was given, and is written exactly if `-O` was.
abbrev pub verify_all_answer : Signers → Settings → InputTexts → Result OutputTexts Refusal
verify_all_answer signers settings inputs = on_content (ver_least_answer limits signers.least signers.number (is_content_wanted settings) inputs.keys
    (handed_in (is_content_given settings) inputs.content) inputs.text)

-- ---- the promises (docs/SPECIFICATION.md "Tools")

-- The inputs were `old` and are `new`. The outputs were `before` and are `after`.
pub record VerifiesAll {D E : Type 0} (input : InputMembers D) (output : OutputMembers E) (signers : Signers) (settings : Settings)
    (old new : Inputs D) (before after : Outputs E) (result : Result (Unit {0}) Cause) : Type 0 where
  -- Whatever follows in the inputs, the outputs or the refusal are those of the answer, unless memory or a device failed.
  pub answer : (inputs : InputTexts) → ArePossibleInputs (seen_of input old new) inputs
      → AgreesUnlessExternal (verify_all_answer signers settings inputs) (written_texts output.written before after) (as_refused result)
  -- The cause is what is wrong with the keys, if anything is.
  pub cause : IfErr result (λ cause. is_external (refusal_of cause) ≡ false → (inputs : InputTexts) → ArePossibleInputs (seen_of input old new) inputs
      → IsCause signers.number inputs.keys cause)
  -- After a refusal each output holds a prefix of its text, and is untouched unless it failed itself.
  pub beginning : OnErr result ((inputs : InputTexts) → ArePossibleInputs (seen_of input old new) inputs
      → AppendPrefixesOf output.written (result_unwrap_or (verify_all_answer signers settings inputs) nothing) before after)
  pub held_back : IfErr (as_refused result) (λ refusal.
      AreSpared output.failures before after refusal (after.text ≡ before.text) (after.content ≡ before.content))
  -- The object is read first, then the keys, and then the payload if it is handed in, each to its end before the next is touched. A refusal
  -- that no device and no memory caused comes only after all of them.
  pub keys_in_order : input.is_at_end new.text ≡ false → new.keys ≡ old.keys
  pub content_in_order : input.is_at_end new.keys && input.is_at_end new.text ≡ false → new.content ≡ old.content
  pub reads_first : IfErr (as_refused result) (λ refusal. is_external refusal ≡ false → IsTrue (input.is_at_end new.text) × IsTrue (input.is_at_end new.keys)
      × (IsTrue (is_content_given settings) → IsTrue (input.is_at_end new.content)))
  -- The payload was finished once if it is asked for, and not after a refusal.
  pub finished : OnOk result (IsTrue (is_content_wanted settings) → IsFinishedOnce output.is_finished output.endings before.content after.content)
  pub unfinished : OnErr result (output.endings after.content ≡ output.endings before.content)
  -- Every other device is untouched.
  pub no_random : new.random ≡ old.random
  pub no_content : is_content_given settings ≡ false → new.content ≡ old.content
  pub no_text : after.text ≡ before.text
  pub no_payload : is_content_wanted settings ≡ false → after.content ≡ before.content
  -- The refusal reports a device that failed in the call, and no other device.
  pub faults : TellsFaults (input_counts input.failures old new) (output_counts output.failures before after) (as_refused result)
