-- What the steps of a command promise about its devices. What a command promises follows from this.
use Rattle.std.specs.Prelude.{◌≡◌, ◌⊎◌, ◌++◌, ◌&&◌, ℕ, Bool, true, false, List, [], if◌then◌else◌, option_map, Result, OnOk, OnErr, IfOk, IfErr, IsTrue, Ok}
use Rattle.octets.specs.declared.refusal.Refusal.{Refusal}
use Rattle.octets.specs.Devices.{InputMembers, OutputMembers, IsPossibleInput, IsFinishedOnce}
use Rattle.octets.specs.Faults.{TellsFaults}
use Rattle.octets.specs.Outcomes.{AgreesUnlessExternal, is_external}
use Rattle.octets.specs.Plan.{OutputTexts, nothing}
use Rattle.objects.specs.Texts.{handed_in, handed_out}
use Rattle.jose.specs.declared.commands.Wanted.{Wanted}
use Rattle.jose.specs.declared.commands.Wanted.TheVariants.{Text, TemplateAndKeys, Object, ObjectAndKeys}
use Rattle.jose.specs.declared.commands.WholeInputs.{WholeInputs}
use Rattle.jose.specs.declared.ports.Inputs.{Inputs}
use Rattle.jose.specs.declared.ports.Outputs.{Outputs}
use Rattle.jose.specs.Ports.{AppendPrefixesOf, seen_of, written_texts, input_counts, output_counts}
use Rattle.jose.specs.Answer.{AreSpared, was_read}

-- the texts of an answer that may be written as a whole, which are empty until its inputs are read and accepted
-- (docs/SPECIFICATION.md "Commands", "What is left after a refusal")
abbrev pub formed : Result OutputTexts Refusal → Bool → OutputTexts
formed (Ok texts) true = texts
formed answer read = nothing

-- the text of an object, and its content next to it if this is detached (docs/SPECIFICATION.md "Commands" 4)
abbrev pub object_texts : Bool → List ℕ → List ℕ → OutputTexts
object_texts detach content text = record { text = text; content = handed_out detach content }

-- ---- reading whole inputs

abbrev pub wants_keys : Wanted → Bool
wants_keys Text = false
wants_keys TemplateAndKeys = true
wants_keys (Object given) = false
wants_keys (ObjectAndKeys given) = true

abbrev pub wants_content : Wanted → Bool
wants_content Text = false
wants_content TemplateAndKeys = false
wants_content (Object given) = given
wants_content (ObjectAndKeys given) = given

-- the octets of an input if it is read, and otherwise none
abbrev pub where_read : Bool → List ℕ → List ℕ
where_read is_read whole = if is_read then whole else []

-- The text is read to its end, then the keys if they are asked for, and then the content if it is handed in. Reading fails only if memory
-- or a device fails.
pub record ReadsInputs {D : Type 0} (input : InputMembers D) (has_keys given : Bool) (old new : Inputs D) (result : Result WholeInputs Refusal) : Type 0 where
  pub text : IfOk result (λ read. (whole : List ℕ) → IsPossibleInput (seen_of input old new).text whole → whole ≡ read.text.items)
  pub keys : IfOk result (λ read. (whole : List ℕ) → IsPossibleInput (seen_of input old new).keys whole → where_read has_keys whole ≡ read.keys.items)
  pub content : IfOk result (λ read. (whole : List ℕ) → IsPossibleInput (seen_of input old new).content whole
      → handed_in given whole ≡ option_map (λ c. c.items) read.content)
  pub text_ends : OnOk result (IsTrue (input.is_at_end new.text))
  pub keys_end : OnOk result (IsTrue has_keys → IsTrue (input.is_at_end new.keys))
  pub content_ends : OnOk result (IsTrue given → IsTrue (input.is_at_end new.content))
  pub keys_in_order : input.is_at_end new.text ≡ false → new.keys ≡ old.keys
  pub content_in_order : was_read has_keys (seen_of input old new).keys && input.is_at_end new.text ≡ false → new.content ≡ old.content
  pub no_keys : has_keys ≡ false → new.keys ≡ old.keys
  pub no_content : given ≡ false → new.content ≡ old.content
  pub no_random : new.random ≡ old.random
  pub cause : IfErr result (λ refusal. is_external refusal ≡ true)
  pub faults : TellsFaults (input_counts input.failures old new) [] result

-- ---- writing the answer to whole inputs

-- The answer to whole inputs is written, with the content first if the command has an output for it. No output is touched before the answer
-- is ready.
pub record WritesWhole {E : Type 0} (output : OutputMembers E) (has_text has_content : Bool) (answer : Result OutputTexts Refusal) (before after : Outputs E)
    (result : Result (Unit {0}) Refusal) : Type 0 where
  pub agrees : AgreesUnlessExternal answer (written_texts output.written before after) result
  pub beginning : OnErr result (AppendPrefixesOf output.written (formed answer true) before after)
  pub held_back : IfErr result (λ refusal. AreSpared output.failures before after refusal (after.text ≡ before.text) (after.content ≡ before.content))
  pub content_first : OnErr result (((after.text ≡ before.text) × (output.endings after.content ≡ output.endings before.content))
      ⊎ (IsTrue has_content → IsFinishedOnce output.is_finished output.endings before.content after.content
      × ((texts : OutputTexts) × (answer ≡ Ok texts) × (output.written after.content ≡ output.written before.content ++ texts.content))))
  pub finished : OnOk result ((IsTrue has_text → IsFinishedOnce output.is_finished output.endings before.text after.text)
      × (IsTrue has_content → IsFinishedOnce output.is_finished output.endings before.content after.content))
  pub unfinished : OnErr result ((output.endings after.text ≡ output.endings before.text)
      × (has_text ≡ false → output.endings after.content ≡ output.endings before.content))
  pub no_text : has_text ≡ false → after.text ≡ before.text
  pub no_content : has_content ≡ false → after.content ≡ before.content
  pub faults : TellsFaults [] (output_counts output.failures before after) result
