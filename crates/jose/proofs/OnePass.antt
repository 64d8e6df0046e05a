-- What `jws ver` promises if it does not hold its payload.
use Rattle.std.proofs.Common.{◌≡◌, ◌&&◌, ℕ, List, [], ◌∷◌, true, false, IsTrue, Bool, Option, Some, Result, Ok, Err, IfErr, inl, inr, refl, sym, ◌∙◌, arith}
use Rattle.std.proofs.Math.Seq.{drop-length}
use Rattle.octets.specs.declared.refusal.Refusal.{Refusal}
use Rattle.octets.specs.Devices.{observed, IsPossibleInput, InputMembers, OutputMembers}
use Rattle.octets.specs.Faults.{Counts, counts, TellsFaults}
use Rattle.octets.specs.Outcomes.{is_external, AgreesUnlessExternal}
use Rattle.octets.proofs.Lemmas.{AppendsPrefixOf-kept, if_weaker}
use Rattle.keys.specs.Limits.{limits}
use Rattle.jose.specs.declared.ports.Inputs.{Inputs}
use Rattle.jose.specs.declared.ports.Outputs.{Outputs}
use Rattle.tokens.specs.Jws.{ver_answer}
use Rattle.jose.specs.Ports.{on_content, output_counts, seen_of}
use Rattle.jose.specs.Doing.{Does}
use Rattle.jose.specs.Invocations.{InvocationView}
use Rattle.jose.proofs.Agreement.{agrees_as_content}
use Rattle.jose.proofs.Doing.{IsWhole, if_always, if_done, others_are, reader_of}
use Rattle.jose.proofs.Draws.{none_drawn, nothing_drawn}
use Rattle.jose.proofs.Objects.{planned_of_object}

-- The failures of the inputs are reported in the order of a run's inputs.
pub told_in_order : {E : Type 0} (failures : E → ℕ) (outs : Outputs E) (text keys content random : Counts) (r : Result (Unit {0}) Refusal) → random.new ≡ random.old
    → TellsFaults (text ∷ keys ∷ content ∷ []) [] r
    → TellsFaults (text ∷ content ∷ keys ∷ random ∷ []) (output_counts failures outs outs) r
told_in_order failures outs text keys content random (Ok done) same told = record {
  works = ((told.works.0.0, (told.works.0.1.1.0, (told.works.0.1.0, (same, tt)))), (refl, (refl, tt)));
  read = λ is. cc;
  write = λ is. cc;
  inputs_told = tt;
  outputs_told = tt;
}
told_in_order failures outs text keys content random (Err e) same told = record {
  works = tt;
  read = λ is. elim (told.read is) [
    | inl text ↦ inl text
    | inr rest ↦
        elim rest [ inl keys ↦ inr (inr (inl keys)) | inr last ↦ elim last [ inl content ↦ inr (inl content) | inr nothing ↦ absurd nothing ] ]
  ];
  write = λ is. absurd (told.write is);
  inputs_told = λ others. let none = told.inputs_told others in (none.0, (none.1.1.0, (none.1.0, (same, tt))));
  outputs_told = λ others. (refl, (refl, tt));
}

pub verified_in_one_pass : {D E : Type 0} {input : InputMembers D} {v : InvocationView} {old : Inputs D} {text keys content : D} (all : Bool)
    (output : OutputMembers E) (outs : Outputs E) (r : Result (Unit {0}) Refusal)
    → IsWhole v true true false false (λ text keys detached. on_content (ver_answer limits all false keys detached text))
    → ((whole_text whole_keys whole_content : List ℕ) → IsPossibleInput (observed input.consumed input.is_at_end old.text text) whole_text
    → IsPossibleInput (observed input.consumed input.is_at_end old.keys keys) whole_keys
    → IsPossibleInput (observed input.consumed input.is_at_end old.content content) whole_content
    → AgreesUnlessExternal (ver_answer limits all false whole_keys (Some whole_content) whole_text) [] r)
    → (input.is_at_end text ≡ false → keys ≡ old.keys) × (input.is_at_end keys && input.is_at_end text ≡ false → content ≡ old.content)
    → IfErr r (λ refusal. is_external refusal ≡ false → IsTrue (input.is_at_end text) × IsTrue (input.is_at_end keys) × IsTrue (input.is_at_end content))
    → TellsFaults (counts input.failures old.text text ∷ counts input.failures old.keys keys ∷ counts input.failures old.content content ∷ []) [] r
    → Does input output v old (record old { text = text; keys = keys; content = content }) outs outs r
verified_in_one_pass {D} {E} {input} {v} {old} {text} {keys} {content} all output outs r is answers in_order reads_first told =
    let new : Inputs D = record old { text = text; keys = keys; content = content } in
    let seen = seen_of input old new in
    let reader = reader_of is in
    let by = λ (text keys : List ℕ) (detached : Option (List ℕ)). on_content (ver_answer limits all false keys detached text) in
    record {
      answer = λ inputs may. rw (
        is.draft inputs.text inputs.keys,
        is.content,
        planned_of_object true (by inputs.text inputs.keys) inputs.random inputs.content,
        drop-length (output.written outs.text),
        drop-length (output.written outs.content),
      )
          (agrees_as_content (ver_answer limits all false inputs.keys (Some inputs.content) inputs.text) [] [] r refl
          (answers inputs.text inputs.keys inputs.content may.text may.keys may.content));
      drawn = if_done r (λ inputs may. nothing_drawn (input.consumed old.random) ∙ sym (reader.draws refl inputs.text inputs.keys));
      at_most = λ inputs may. none_drawn (input.consumed old.random) _;
      beginning = if_always r _ (λ e. record { text = AppendsPrefixOf-kept _ _; content = AppendsPrefixOf-kept _ _ });
      held_back = if_always r _ (λ e holds. record { text = λ spared. refl; content = λ others. refl });
      uncut = if_always r _ (λ e. record { text = λ spared same. refl; content = λ others same. refl });
      unread = if_always r _ (λ e streams nothing. record { text = λ spared. refl; content = λ others. refl });
      keeps_up = λ told streams. let holds = is.holds in cc;
      content_first = if_always r _ (λ e. inl (refl, refl));
      in_order = record {
        keys = λ unread. in_order.0 (rw is.text at unread);
        random = λ unread. refl;
        content = λ unread. in_order.1 (sym (others_are reader seen) ∙ unread);
      };
      reads_first = if_weaker r _ _ reads_first (λ e ended inside usage. let all = ended inside in
          rw (others_are reader seen, is.content, is.holds, all.0, all.1, all.2) refl);
      random_first = λ short. let none = reader.draws refl seen.text.octets seen.keys.octets in absurd (omega (arith, none, short));
      memory_first = if_always r _ (λ e memory. (is.memory, λ streams. let holds = is.holds in cc));
      content_last = λ refusal refused. let given = reader.refuses _ _ refusal refused in cc;
      finished = if_done r (λ has. let none = is.text_out in cc, λ has. let none = is.content_out in cc);
      unfinished = if_always r _ (λ e. (refl, λ none. refl));
      untouched = record {
        text = λ none. let some = is.text in cc;
        content = λ none. let given = is.content in cc;
        keys = λ none. let some = is.keys in cc;
        random = λ none. refl;
        text_out = λ none. refl;
        content_out = λ none. refl;
      };
      faults = told_in_order output.failures outs _ _ _ _ r refl told;
    }
