-- What jose-verify-all promises follows from the promises of its steps.
use Rattle.std.proofs.Common.{◌≡◌, ◌&&◌, ◌∙◌, ℕ, List, [], ◌∷◌, true, false, Bool, IsTrue, Some, option_map, Result, Ok, Err, OnOk, OnErr, IfErr, IsErrAnd, refl, sym, ap, subst}
use Rattle.std.proofs.Math.Seq.{drop-length}
use Rattle.std.specs.Result.{result_unwrap_or}
use Rattle.octets.specs.declared.refusal.Refusal.{Refusal}
use Rattle.octets.specs.declared.refusal.Refusal.TheVariants.{Read, Write}
use Rattle.octets.specs.Devices.{observed, IsPossibleInput, InputMembers, OutputMembers}
use Rattle.octets.specs.Faults.{counts, TellsFaults}
use Rattle.octets.specs.Outcomes.{AgreesUnlessExternal, is_external}
use Rattle.octets.specs.Plan.{OutputTexts, nothing}
use Rattle.octets.proofs.Lemmas.{AppendsPrefixOf-kept, if_weaker}
use Rattle.keys.specs.Keys.{OctetKey}
use Rattle.keys.specs.KeySets.{key_set}
use Rattle.keys.specs.Limits.{limits}
use Rattle.tokens.specs.Jws.{ver_least_answer}
use Rattle.tokens.specs.Signers.{are_signers}
use Rattle.jose.specs.declared.commands.WholeInputs.{WholeInputs}
use Rattle.jose.specs.declared.ports.Inputs.{Inputs}
use Rattle.jose.specs.declared.ports.Outputs.{Outputs}
use Rattle.jose.specs.Code.Steps.{ReadsInputs, WritesWhole, formed}
use Rattle.jose.specs.Invocations.{Settings}
use Rattle.jose.specs.Meanings.{is_content_given, is_content_wanted}
use Rattle.jose.specs.Ports.{InputTexts, ArePossibleInputs, on_content, seen_of, written_texts}
use Rattle.jose.proofs.Lemmas.{agrees_as_content, if_always, told_both, told_in_order}
use Rattle.tools.specs.declared.cause.Cause.{Cause}
use Rattle.tools.specs.declared.cause.Cause.TheVariants.{Refused}
use Rattle.tools.specs.declared.words.Signers.{Signers}
use Rattle.tools.specs.Causes.{IsCause, as_refused, refusal_of}
use Rattle.tools.specs.Code.{caused}
use Rattle.tools.specs.VerifyAll.{verify_all_answer, VerifiesAll}

-- ---- results with a cause

on_done : {P Q : Type 0} (r : Result (Unit {0}) Cause) → OnOk (as_refused r) P → (P → Q) → OnOk r Q
on_done (Ok done) p f = f p
on_done (Err cause) p f = tt

on_cause : {P Q : Type 0} (r : Result (Unit {0}) Cause) → OnErr (as_refused r) P → (P → Q) → OnErr r Q
on_cause (Ok done) p f = tt
on_cause (Err cause) p f = f p

any_cause : {P : Type 0} (r : Result (Unit {0}) Cause) → P → OnErr r P
any_cause (Ok done) p = tt
any_cause (Err cause) p = p

cause_gives : (r : Result (Unit {0}) Cause) (P Q : Cause → Type 0) → IfErr r P → ((cause : Cause) → P cause → Q cause) → IfErr r Q
cause_gives (Ok done) P Q p more = tt
cause_gives (Err cause) P Q p more = more cause p

done_gives : {P : Type 0} (r : Result (Unit {0}) Cause) → P → OnOk r P
done_gives (Ok done) p = p
done_gives (Err cause) p = tt

-- ---- the object, the keys and the payload are read whole

formed_is : (a : Result OutputTexts Refusal) → formed a true ≡ result_unwrap_or a nothing
formed_is (Ok texts) = refl
formed_is (Err refusal) = refl

pub wrote_all : {D E : Type 0} {input : InputMembers D} {output : OutputMembers E} {signers : Signers} {settings : Settings} {given wanted : Bool}
    {old new : Inputs D} {before after : Outputs E} {read : WholeInputs} (r : Result (Unit {0}) Cause)
    → given ≡ is_content_given settings → wanted ≡ is_content_wanted settings
    → ReadsInputs input true given old new (Ok read)
    → WritesWhole output false wanted
    (on_content (ver_least_answer limits signers.least signers.number wanted read.keys.items (option_map (λ c. c.items) read.content) read.text.items)) before after (as_refused r)
    → IfErr r (λ cause. is_external (refusal_of cause) ≡ false → IsCause signers.number read.keys.items cause)
    → VerifiesAll input output signers settings old new before after r
wrote_all {D} {E} {input} {output} {signers} {settings} {given} {wanted} {old} {new} {before} {after} {read = whole} r given_is wanted_is read wrote cause =
    let seen = seen_of input old new in
    let all : Result OutputTexts Refusal
    = on_content (ver_least_answer limits signers.least signers.number wanted whole.keys.items (option_map (λ c. c.items) whole.content) whole.text.items) in
    let answered : (inputs : InputTexts) → ArePossibleInputs seen inputs → verify_all_answer signers settings inputs ≡ all
    = λ inputs may. rw (
      ← given_is,
      ← wanted_is,
      read.text inputs.text may.text,
      read.keys inputs.keys may.keys,
      read.content inputs.content may.content,
    ) refl in
    record {
      answer = λ inputs may.
          subst (λ a. AgreesUnlessExternal a (written_texts output.written before after) (as_refused r)) (sym (answered inputs may)) wrote.agrees;
      cause = cause_gives r _ _ cause
          (λ e holds internal inputs may. subst (λ keys. IsCause signers.number keys e) (sym (read.keys inputs.keys may.keys)) (holds internal));
      beginning = on_cause r wrote.beginning (λ part inputs may. rw (answered inputs may, ← formed_is all) part);
      held_back = wrote.held_back;
      keys_in_order = read.keys_in_order;
      content_in_order = read.content_in_order;
      reads_first = if_always (as_refused r) _ (λ e internal. (read.text_ends, read.keys_end refl, λ has. read.content_ends (given_is ∙ has)));
      finished = on_done r wrote.finished (λ done has. done.1 (wanted_is ∙ has));
      unfinished = on_cause r wrote.unfinished (λ same. same.1 refl);
      no_random = read.no_random;
      no_content = λ none. read.no_content (given_is ∙ none);
      no_text = wrote.no_text refl;
      no_payload = λ none. wrote.no_content (wanted_is ∙ none);
      faults = told_both _ _ whole (as_refused r) read.faults wrote.faults;
    }

-- ---- an input fails, or memory

ends_unread : {D E : Type 0} {input : InputMembers D} {signers : Signers} {settings : Settings} {given : Bool} {old new : Inputs D} {e : Refusal}
    (output : OutputMembers E) (outs : Outputs E)
    → given ≡ is_content_given settings → ReadsInputs input true given old new (Err e)
    → VerifiesAll input output signers settings old new outs outs (Err (Refused e))
ends_unread {D} {E} {input} {signers} {settings} {given} {old} {new} {e} output outs given_is read =
    let outside : is_external e ≡ true = read.cause in
    record {
      answer = λ inputs may internal. cc;
      cause = λ internal inputs may. absurd (never internal outside);
      beginning = λ inputs may. record { text = AppendsPrefixOf-kept _ _; content = AppendsPrefixOf-kept _ _ };
      held_back = record { text = λ spared. refl; content = λ others. refl };
      keys_in_order = read.keys_in_order;
      content_in_order = read.content_in_order;
      reads_first = λ internal. absurd (never internal outside);
      finished = tt;
      unfinished = refl;
      no_random = read.no_random;
      no_content = λ none. read.no_content (given_is ∙ none);
      no_text = refl;
      no_payload = λ none. refl;
      faults = record {
        works = tt;
        read = λ is. let failed : e ≡ Read = cc is in read.faults.read (ap Err failed);
        write = λ is. let failed : e ≡ Write = cc is in absurd (read.faults.write (ap Err failed));
        inputs_told = read.faults.inputs_told;
        outputs_told = λ others. (refl, (refl, tt));
      };
    }
  where
    never : is_external e ≡ false → is_external e ≡ true → ⊥
    never inside outside = cc

pub not_read : {D E : Type 0} {input : InputMembers D} {signers : Signers} {settings : Settings} {given : Bool} {old new : Inputs D} {e : Refusal}
    (output : OutputMembers E) (outs : Outputs E) (r : Result (Unit {0}) Cause)
    → given ≡ is_content_given settings → ReadsInputs input true given old new (Err e) → IsErrAnd r (λ cause. cause ≡ Refused e)
    → VerifiesAll input output signers settings old new outs outs r
not_read output outs (Ok done) given_is read same = absurd same
not_read {input} {signers} {settings} {old} {new} output outs (Err cause) given_is read same =
    subst (λ cause. VerifiesAll input output signers settings old new outs outs (Err cause)) (sym same) (ends_unread output outs given_is read)

-- ---- the payload is read in one pass

pub in_one_pass : {D E : Type 0} {input : InputMembers D} {signers : Signers} {settings : Settings} {old : Inputs D} {text keys content : D}
    (output : OutputMembers E) (outs : Outputs E) (r : Result (Unit {0}) Cause)
    → true ≡ is_content_given settings → false ≡ is_content_wanted settings
    → ((whole_text whole_keys whole_content : List ℕ) → IsPossibleInput (observed input.consumed input.is_at_end old.text text) whole_text
    → IsPossibleInput (observed input.consumed input.is_at_end old.keys keys) whole_keys
    → IsPossibleInput (observed input.consumed input.is_at_end old.content content) whole_content
    → AgreesUnlessExternal (ver_least_answer limits signers.least signers.number false whole_keys (Some whole_content) whole_text) [] (as_refused r))
    → IfErr r (λ cause. is_external (refusal_of cause) ≡ false → (whole_keys : List ℕ)
    → IsPossibleInput (observed input.consumed input.is_at_end old.keys keys) whole_keys → IsCause signers.number whole_keys cause)
    → (input.is_at_end text ≡ false → keys ≡ old.keys) × (input.is_at_end keys && input.is_at_end text ≡ false → content ≡ old.content)
    → IfErr (as_refused r) (λ refusal. is_external refusal ≡ false
    → IsTrue (input.is_at_end text) × IsTrue (input.is_at_end keys) × IsTrue (input.is_at_end content))
    → TellsFaults (counts input.failures old.text text ∷ counts input.failures old.keys keys ∷ counts input.failures old.content content ∷ []) [] (as_refused r)
    → VerifiesAll input output signers settings old (record old { text = text; keys = keys; content = content }) outs outs r
in_one_pass {D} {E} {input} {signers} {settings} {old} {text} {keys} {content} output outs r given wanted answers cause in_order reads_first told = record {
  answer = λ inputs may. rw (← given, ← wanted, drop-length (output.written outs.text), drop-length (output.written outs.content))
      (agrees_as_content (ver_least_answer limits signers.least signers.number false inputs.keys (Some inputs.content) inputs.text) [] [] (as_refused r) refl
      (answers inputs.text inputs.keys inputs.content may.text may.keys may.content));
  cause = cause_gives r _ _ cause (λ e holds internal inputs may. holds internal inputs.keys may.keys);
  beginning = any_cause r (λ inputs may. record { text = AppendsPrefixOf-kept _ _; content = AppendsPrefixOf-kept _ _ });
  held_back = if_always (as_refused r) _ (λ e. record { text = λ spared. refl; content = λ others. refl });
  keys_in_order = in_order.0;
  content_in_order = in_order.1;
  reads_first = if_weaker (as_refused r) _ _ reads_first (λ e holds internal. let ends = holds internal in (ends.0, ends.1, λ has. ends.2));
  finished = done_gives r (λ has. absurd (false_is_not (wanted ∙ has)));
  unfinished = any_cause r refl;
  no_random = refl;
  no_content = λ none. absurd (false_is_not (sym (given ∙ none)));
  no_text = refl;
  no_payload = λ none. refl;
  faults = told_in_order output.failures outs _ _ _ _ (as_refused r) refl told;
}
  where
    false_is_not : (let f : Bool = false in f) ≡ true → ⊥
    false_is_not h = cc h

-- ---- the steps of one pass

pub as_refused-caused : (r : Result (Unit {0}) Refusal) → as_refused (caused r) ≡ r
as_refused-caused (Ok done) = refl
as_refused-caused (Err refusal) = refl

-- If the keys are so many signers, a refusal blames other things than them.
pub blames_others : (r : Result (Unit {0}) Refusal) (number : ℕ) (keys : List ℕ) (set : List OctetKey) (May : List ℕ → Type 0)
    → ((whole : List ℕ) → May whole → whole ≡ keys) → (key_set limits keys true ≡ Ok set) × (are_signers number set ≡ true)
    → IfErr (caused r) (λ cause. is_external (refusal_of cause) ≡ false → (whole : List ℕ) → May whole → IsCause number whole cause)
blames_others (Ok done) number keys set May same own = tt
blames_others (Err refusal) number keys set May same own = λ internal whole may.
    subst (λ keys. IsCause number keys (Refused refusal)) (sym (same whole may)) (set, (own.0, own.1))
