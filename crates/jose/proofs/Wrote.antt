-- An answer that is written to the output of the content alone.
use Rattle.std.proofs.Common.{◌≡◌, ◌≢◌, ℕ, List, [], ◌∷◌, true, false, Result, Ok, Err, OnOk, OnErr, IfErr, inl, inr, refl}
use Rattle.std.proofs.Math.Seq.{drop-length}
use Rattle.std.specs.Result.{result_unwrap_or}
use Rattle.octets.specs.declared.refusal.Refusal.{Refusal}
use Rattle.octets.specs.declared.refusal.Refusal.TheVariants.{Write}
use Rattle.octets.specs.Devices.{appended, AppendsPrefixOf, IsFinishedOnce, OutputMembers}
use Rattle.octets.specs.Faults.{Counts, counts, TellsFaults}
use Rattle.octets.specs.Outcomes.{AgreesUnlessExternal}
use Rattle.octets.proofs.Lemmas.{AppendsPrefixOf-none, on_success, on_refusal, if_weaker}
use Rattle.jose.specs.declared.ports.Outputs.{Outputs}
use Rattle.jose.specs.Ports.{as_content, on_content}
use Rattle.jose.specs.Code.Steps.{WritesWhole, formed}
use Rattle.jose.proofs.Agreement.{agrees_as_content}

formed_content : (a : Result (List ℕ) Refusal) → formed (on_content a) true ≡ as_content (result_unwrap_or a [])
formed_content (Ok content) = refl
formed_content (Err r) = refl

told_content : (c d : Counts) (r : Result (Unit {0}) Refusal) → c.new ≡ c.old → TellsFaults [] (d ∷ []) r → TellsFaults [] (c ∷ d ∷ []) r
told_content c d (Ok done) same told = record { works = (tt, (same, told.works.1)); read = λ is. cc; write = λ is. cc; inputs_told = tt; outputs_told = tt }
told_content c d (Err e) same told = record {
  works = tt;
  read = told.read;
  write = λ is. inr (told.write is);
  inputs_told = told.inputs_told;
  outputs_told = λ others. (same, told.outputs_told others);
}

pub wrote_content : {E : Type 0} (output : OutputMembers E) (a : Result (List ℕ) Refusal) (outs : Outputs E) (content : E) (r : Result (Unit {0}) Refusal)
    → AgreesUnlessExternal a (appended (output.written outs.content) (output.written content)) r
    → IfErr r (λ refusal. refusal ≢ Write → content ≡ outs.content)
    → OnErr r (AppendsPrefixOf (result_unwrap_or a []) (output.written outs.content) (output.written content))
    → OnOk r (IsFinishedOnce output.is_finished output.endings outs.content content) → OnErr r (output.endings content ≡ output.endings outs.content)
    → TellsFaults [] (counts output.failures outs.content content ∷ []) r
    → WritesWhole output false true (on_content a) outs (record outs { content = content }) r
wrote_content output a outs content r agrees held_back beginning finished unfinished faults = record {
  agrees = agrees_as_content a _ _ r (drop-length (output.written outs.text)) agrees;
  beginning = on_refusal r beginning (λ part. rw (formed_content a) (record { text = AppendsPrefixOf-none _ _ refl; content = part }));
  held_back = if_weaker r _ _ held_back (λ e untouched. record { text = λ spared. refl; content = untouched });
  content_first = on_refusal r unfinished (λ same. inl (refl, same));
  finished = on_success r finished (λ done. (λ has. cc, λ has. done));
  unfinished = on_refusal r unfinished (λ same. (refl, λ none. same));
  no_text = λ none. refl;
  no_content = λ none. cc;
  faults = told_content _ _ r refl faults;
}
