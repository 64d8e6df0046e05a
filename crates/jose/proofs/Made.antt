-- The promises of `jwk gen` follow from making a key and writing its text.
use Rattle.std.proofs.Common.{◌≡◌, ◌≢◌, ◌≤◌, ℕ, List, [], ◌∷◌, length, true, false, Result, Ok, Err, OnOk, OnErr, IfErr, inl, inr, refl, subst}
use Rattle.std.proofs.Math.Seq.{drop-length}
use Rattle.octets.specs.declared.refusal.Refusal.{Refusal}
use Rattle.octets.specs.declared.refusal.Refusal.TheVariants.{Write}
use Rattle.octets.specs.Devices.{appended, observed, IsPossibleInput, AppendsPrefixOf, IsFinishedOnce, InputMembers, OutputMembers}
use Rattle.octets.specs.Faults.{Counts, counts, TellsFaults}
use Rattle.octets.specs.Outcomes.{AgreesUnlessExternal}
use Rattle.octets.specs.Plan.{drawn_of}
use Rattle.octets.specs.Code.Results.{accepted}
use Rattle.octets.proofs.Lemmas.{AppendsPrefixOf-none, on_success, on_refusal, planned_without_content, seen_possible, if_weaker}
use Rattle.keys.specs.Generating.{gen_answer}
use Rattle.keys.specs.Limits.{limits}
use Rattle.jose.specs.declared.commands.WholeInputs.{WholeInputs}
use Rattle.jose.specs.declared.ports.Inputs.{Inputs}
use Rattle.jose.specs.declared.ports.Outputs.{Outputs}
use Rattle.jose.specs.declared.words.table.Command.TheVariants.{JwkGen}
use Rattle.jose.specs.Answer.{beginning}
use Rattle.jose.specs.Invocations.{Settings}
use Rattle.jose.specs.Jwk.{making}
use Rattle.jose.specs.Ports.{as_text, seen_of}
use Rattle.jose.specs.Doing.{Does}
use Rattle.jose.specs.Code.Steps.{ReadsInputs}
use Rattle.jose.proofs.Agreement.{agrees_as_text, begun_by_text, plan_of_making}
use Rattle.jose.proofs.Doing.{if_always}
use Rattle.jose.proofs.Rows.{invoked}
use Rattle.jose.proofs.Spared.{spared_alone}

pub record MakesKey {D E : Type 0} (input : InputMembers D) (output : OutputMembers E) (template : List ℕ) (random random' : D) (text text' : E)
    (r : Result (Unit {0}) Refusal) : Type 0 where
  pub answer : (octets : List ℕ) → IsPossibleInput (observed input.consumed input.is_at_end random random') octets
      → AgreesUnlessExternal (gen_answer limits template octets) (appended (output.written text) (output.written text')) r
  pub drawn : OnOk r (length (appended (input.consumed random) (input.consumed random')) ≡ drawn_of (making template))
  pub at_most : length (appended (input.consumed random) (input.consumed random')) ≤ drawn_of (making template)
  pub beginning : OnErr r (AppendsPrefixOf (accepted (gen_answer limits template (appended (input.consumed random) (input.consumed random'))) true)
      (output.written text) (output.written text'))
  pub held_back : IfErr r (λ refusal. refusal ≢ Write → text' ≡ text)
  pub finished : OnOk r (IsFinishedOnce output.is_finished output.endings text text')
  pub unfinished : OnErr r (output.endings text' ≡ output.endings text)
  pub content_last : (refusal : Refusal) → making template ≡ Err refusal → random' ≡ random
  pub faults : TellsFaults (counts input.failures random random' ∷ []) (counts output.failures text text' ∷ []) r

-- The inputs that were read whole did not fail, so the result reports the failures of the random input and of the output of the text.
told_of_key : {X : Type 0} (text content keys random random' texts contents : Counts) (x : X) (r : Result (Unit {0}) Refusal) → contents.new ≡ contents.old
    → TellsFaults (text ∷ content ∷ keys ∷ random ∷ []) [] (Ok x) → TellsFaults (random' ∷ []) (texts ∷ []) r
    → TellsFaults (text ∷ content ∷ keys ∷ random' ∷ []) (texts ∷ contents ∷ []) r
told_of_key text content keys random random' texts contents x (Ok done) same i o = record {
  works = ((i.works.0.0, (i.works.0.1.0, (i.works.0.1.1.0, (o.works.0.0, tt)))), (o.works.1.0, (same, tt)));
  read = λ told. cc;
  write = λ told. cc;
  inputs_told = tt;
  outputs_told = tt;
}
told_of_key text content keys random random' texts contents x (Err e) same i o = record {
  works = tt;
  read = λ told. elim (o.read told) [ inl random ↦ inr (inr (inr (inl random))) | inr nothing ↦ absurd nothing ];
  write = λ told. elim (o.write told) [ inl text ↦ inl text | inr nothing ↦ absurd nothing ];
  inputs_told = λ others. (i.works.0.0, (i.works.0.1.0, (i.works.0.1.1.0, ((o.inputs_told others).0, tt))));
  outputs_told = λ others. ((o.outputs_told others).0, (same, tt));
}

pub made : {D E : Type 0} {input : InputMembers D} {output : OutputMembers E} {old mid : Inputs D} {random : D} {before : Outputs E} {text : E}
    {read : WholeInputs} (options : Settings) (r : Result (Unit {0}) Refusal)
    → ReadsInputs input false false old mid (Ok read) → MakesKey input output read.text.items mid.random random before.text text r
    → Does input output (invoked JwkGen options) old (record mid { random = random }) before (record before { text = text }) r
made {D} {E} {input} {output} {old} {mid} {random} {before} {text} {read = whole} options r read key =
    let new : Inputs D = record mid { random = random } in
    let seen = seen_of input old new in
    let k : MakesKey input output whole.text.items old.random random before.text text r
    = subst (λ d. MakesKey input output whole.text.items d random before.text text r) read.no_random key in
    let t : seen.text.octets ≡ whole.text.items = read.text _ (seen_possible input.consumed input.is_at_end old.text new.text) in
    let stands : beginning (invoked JwkGen options) seen ≡ as_text (accepted (gen_answer limits whole.text.items seen.random.octets) true)
    = rw (
      t,
      plan_of_making whole.text.items seen.random.octets,
      begun_by_text as_text refl seen.text.ended (gen_answer limits whole.text.items seen.random.octets),
      read.text_ends,
    ) refl in
    let spared = spared_alone output.failures before.text text (text ≡ before.text) r k.faults k.held_back in
    record {
      answer = λ inputs may.
          let a = gen_answer limits inputs.text inputs.random in
          rw (plan_of_making inputs.text inputs.random, planned_without_content as_text a [], read.text inputs.text may.text)
          (agrees_as_text (gen_answer limits whole.text.items inputs.random) _ _ r (drop-length (output.written before.content))
          (k.answer inputs.random may.random));
      drawn = on_success r k.drawn (λ drawn inputs may. rw (read.text inputs.text may.text) drawn);
      at_most = λ inputs may. rw (read.text inputs.text may.text) k.at_most;
      beginning = on_refusal r k.beginning (λ part. rw stands (record { text = part; content = AppendsPrefixOf-none _ _ refl }));
      held_back = if_weaker r _ _ spared (λ e untouched holds. record { text = untouched; content = λ others. refl });
      uncut = if_weaker r _ _ spared (λ e untouched. record { text = λ is same. untouched is; content = λ others same. refl });
      unread = if_always r _ (λ e streams. cc);
      keeps_up = λ told streams. cc;
      content_first = if_weaker r _ _ k.held_back (λ e untouched. inr (λ has. cc));
      in_order = record { keys = read.keys_in_order; random = λ unread. let ended = read.text_ends in cc; content = λ unread. read.no_content refl };
      reads_first = if_always r _ (λ e inside usage. rw read.text_ends refl);
      random_first = λ short. read.no_content refl;
      memory_first = if_always r _ (λ e memory. (refl, λ streams. cc));
      content_last = λ refusal refused. (k.content_last refusal (rw t at refused), read.no_content refl);
      finished = on_success r k.finished (λ done. (λ has. done, λ has. cc));
      unfinished = on_refusal r k.unfinished (λ same. (same, λ none. refl));
      untouched = record {
        text = λ none. cc;
        content = λ none. read.no_content refl;
        keys = λ none. read.no_keys refl;
        random = λ none. cc;
        text_out = λ none. cc;
        content_out = λ none. refl;
      };
      faults = told_of_key _ _ _ _ _ _ _ whole r refl read.faults k.faults;
    }
