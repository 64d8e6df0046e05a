-- What a command promises if it reads its text and its keys whole, and then its content while it writes.
use Rattle.std.proofs.Common.{take, arith, ◌≡◌, ◌≢◌, ◌⊎◌, ◌<◌, ◌++◌, ℕ, List, [], ◌∷◌, length, Bool, true, false, IsTrue, Option, Some, None, is_some, MutBor, Result, Ok, Err, IsErrAnd, inl, inr, refl, sym, ap, subst, ◌∙◌}
use Rattle.std.proofs.Math.Seq.{drop-length}
use Rattle.std.proofs.lemmas.Bool.{lt-leb}
use Rattle.octets.specs.declared.refusal.Refusal.{Refusal}
use Rattle.octets.specs.declared.refusal.Refusal.TheVariants.{Read, Write, Random}
use Rattle.octets.specs.Devices.{appended, IsPossibleInput, AppendsPrefixOf, IsFinishedOnce, InputMembers, OutputMembers}
use Rattle.octets.specs.Faults.{Counts, counts, TellsFaults, NoneFailed, SomeFailed}
use Rattle.octets.specs.Code.Lent.{Lent, lent, IfLent, wrote_on, counts_of}
use Rattle.octets.specs.Code.Streams.{fixed_by}
use Rattle.octets.specs.Outcomes.{◌>>=◌, needs, is_external}
use Rattle.octets.specs.Code.Results.{is_memory}
use Rattle.octets.specs.Plan.{OutputTexts, Plan, Draft, by_plan, drawn_of, plan_from, planned, begun}
use Rattle.octets.specs.Pumps.{KeepsUp}
use Rattle.octets.proofs.Lemmas.{AppendsPrefixOf-kept, kept_up_by_none, on_success, on_refusal, seen_possible, not_memory, if_weaker}
use Rattle.jose.specs.declared.commands.WholeInputs.{WholeInputs}
use Rattle.jose.specs.declared.ports.Inputs.{Inputs}
use Rattle.jose.specs.declared.ports.Outputs.{Outputs}
use Rattle.jose.specs.Invocations.{InvocationView}
use Rattle.jose.specs.Answer.{holds_back, draft_of, beginning, others_read, has_content_input, has_random_input, has_text_output, has_content_output}
use Rattle.octets.specs.Code.Streaming.{Draws, Streams, sight_of}
use Rattle.jose.specs.Ports.{seen_of}
use Rattle.jose.specs.Doing.{Does}
use Rattle.jose.specs.Code.Steps.{ReadsInputs}
use Rattle.jose.proofs.Agreement.{both_on_refusal}
use Rattle.jose.proofs.Draws.{by_plan_drawn, none_drawn, nothing_drawn}
use Rattle.jose.proofs.Doing.{IsReader, ends_early, others_are, if_always, if_done}

-- ---- an output that may be lent

-- the output as it was lent and as it came back, or the same output twice if it was not lent
abbrev pub IsBeside : {E : Type 0} → Option (Lent E) → E → E → Type 0
IsBeside None before after = after ≡ before
IsBeside (Some it) before after = it ≡ record { old = before; new = after }

-- the facts about a call to which no output was lent
pub unlent_call : {E : Type 0} (entry : Option (MutBor E)) (exit : Unit {0} ⊎ ((MutBor E × Unit {0}) ⊎ ⊥)) (P : Bool → Option (Lent E) → Type 0) → entry ≡ None
    → P (is_some entry) (lent entry exit) → P false None
unlent_call None exit P none p = p
unlent_call (Some it) exit P none p = cc

-- a fact about an output that is lent
where_lent : {E : Type 0} (l : Option (Lent E)) (P : E → E → Type 0) (before after : E) → IsBeside l before after → is_some l ≡ true
    → IfLent l P → P before after
where_lent None P before after is some p = cc
where_lent (Some it) P before after is some p = subst (λ (l : Lent _). P l.old l.new) is p

-- a fact about an output that also holds if it is not lent
lent_or : {E : Type 0} (l : Option (Lent E)) (P : E → E → Type 0) (before after : E) → IsBeside l before after → (is_some l ≡ false → P before before)
    → IfLent l P → P before after
lent_or None P before after is same p = subst (P before) (sym is) (same refl)
lent_or (Some it) P before after is same p = subst (λ (l : Lent _). P l.old l.new) is p

not_lent : {E : Type 0} (l : Option (Lent E)) (before after : E) → IsBeside l before after → is_some l ≡ false → after ≡ before
not_lent None before after is none = is
not_lent (Some it) before after is none = cc

-- one of two facts about an output, the second only if it is lent
which_lent : {E : Type 0} (l : Option (Lent E)) (Same : Type 0) (endings : E → ℕ) (P : E → E → Type 0) (before after : E) → IsBeside l before after
    → IfLent l (λ old new. (Same × (endings new ≡ endings old)) ⊎ P old new) → (Same × (endings after ≡ endings before)) ⊎ (is_some l ≡ true → P before after)
which_lent None Same endings P before after is p = inr (λ some. cc)
which_lent (Some it) Same endings P before after is p =
    elim (subst (λ (l : Lent _). (Same × (endings l.new ≡ endings l.old)) ⊎ P l.old l.new) is p) [ inl same ↦ inl same | inr fact ↦ inr (λ some. fact) ]

wrote_is : {E : Type 0} (written : E → List ℕ) (l : Option (Lent E)) (before after : E) → IsBeside l before after
    → wrote_on written l ≡ appended (written before) (written after)
wrote_is written None before after is = sym (ap (λ d. appended (written before) (written d)) is ∙ drop-length (written before))
wrote_is written (Some it) before after is = ap (λ (l : Lent _). appended (written l.old) (written l.new)) is

none_failed : {E : Type 0} (failures : E → ℕ) (l : Option (Lent E)) (before after : E) → IsBeside l before after → NoneFailed (counts_of failures l)
    → NoneFailed (counts failures before after ∷ [])
none_failed failures None before after is none = (ap failures is, tt)
none_failed failures (Some it) before after is none = subst (λ (l : Lent _). NoneFailed (counts failures l.old l.new ∷ [])) is none

some_failed : {E : Type 0} (failures : E → ℕ) (l : Option (Lent E)) (before after : E) → IsBeside l before after → SomeFailed (counts_of failures l)
    → SomeFailed (counts failures before after ∷ [])
some_failed failures None before after is some = absurd some
some_failed failures (Some it) before after is some = subst (λ (l : Lent _). SomeFailed (counts failures l.old l.new ∷ [])) is some

-- ---- what the call that writes promises

-- draws from a random input, then writes the plan by what was drawn, and reports the failures of both inputs
pub record StreamsDrawn {D E : Type 0} (input : InputMembers D) (output : OutputMembers E) (draft : Result (Draft OutputTexts) Refusal)
    (plan : List ℕ → Result (Plan OutputTexts) Refusal) (random random' content content' : D) (text text' : E) (l : Option (Lent E))
    (r : Result (Unit {0}) Refusal) : Type 0 where
  pub draws : Draws input draft random random' r
  pub streams : (octets : List ℕ) → IsPossibleInput (sight_of input random random') octets → Streams input output (plan octets) content content' text text' l r
  pub faults : TellsFaults (counts input.failures random random' ∷ counts input.failures content content' ∷ [])
      (counts output.failures text text' ∷ counts_of output.failures l) r

-- The inputs that were read whole did not fail, so the result reports the failures of the call.
told_after : {E X : Type 0} (failures : E → ℕ) (l : Option (Lent E)) (before after : E) → IsBeside l before after
    → (text content content' keys random random' texts : Counts) (x : X) (r : Result (Unit {0}) Refusal)
    → TellsFaults (text ∷ content ∷ keys ∷ random ∷ []) [] (Ok x) → TellsFaults (random' ∷ content' ∷ []) (texts ∷ counts_of failures l) r
    → TellsFaults (text ∷ content' ∷ keys ∷ random' ∷ []) (texts ∷ counts failures before after ∷ []) r
told_after failures l before after is text content content' keys random random' texts x (Ok done) i o = record {
  works = ((i.works.0.0, (o.works.0.1.0, (i.works.0.1.1.0, (o.works.0.0, tt)))), (o.works.1.0, none_failed failures l before after is o.works.1.1));
  read = λ told. cc;
  write = λ told. cc;
  inputs_told = tt;
  outputs_told = tt;
}
told_after failures l before after is text content content' keys random random' texts x (Err e) i o = record {
  works = tt;
  read = λ told. elim (o.read told) [
    | inl random ↦ inr (inr (inr (inl random)))
    | inr rest ↦
        elim rest [ inl content ↦ inr (inl content) | inr nothing ↦ absurd nothing ]
  ];
  write = λ told. elim (o.write told) [ inl text ↦ inl text | inr some ↦ inr (some_failed failures l before after is some) ];
  inputs_told = λ others. let none = o.inputs_told others in (i.works.0.0, (none.1.0, (i.works.0.1.1.0, (none.0, tt))));
  outputs_told = λ others. let none = o.outputs_told others in (none.0, none_failed failures l before after is none.1);
}

-- If too few octets are drawn, there is no plan.
too_few : {W : Type 0} (draft : Result (Draft W) Refusal) (octets : List ℕ) → length octets < drawn_of draft → plan_from draft octets ≡ Err Random
too_few (Ok draft) octets short = ap (λ enough. needs enough Random >>= λ _. Ok (draft.plan (take draft.drawn octets)))
    (lt-leb draft.drawn (length octets) short)
too_few (Err r) octets short = absurd (omega arith)

-- ---- the command

pub record IsStreamer (v : InvocationView) (detach : Bool) : Type 0 where
  pub reader : IsReader v true false
  pub streams : holds_back v.command ≡ false
  pub content : has_content_input v ≡ true
  pub text_out : has_text_output v ≡ true
  pub content_out : has_content_output v ≡ detach

pub streamed : {D E : Type 0} {input : InputMembers D} {output : OutputMembers E} {v : InvocationView} {draft : Result (Draft OutputTexts) Refusal}
    {plan : List ℕ → Result (Plan OutputTexts) Refusal} {old mid : Inputs D} {random content : D} {before after : Outputs E} {read : WholeInputs}
    (l : Option (Lent E)) (r : Result (Unit {0}) Refusal)
    → IsStreamer v (is_some l) → ReadsInputs input true false old mid (Ok read) → draft_of v read.text.items read.keys.items ≡ draft
    → ((octets : List ℕ) → plan_from draft octets ≡ plan octets)
    → (has_random_input v.command ≡ false → random ≡ mid.random)
    → (is_some l ≡ false → (front : List ℕ) → (fixed_by (plan (appended (input.consumed mid.random) (input.consumed random))) front).content ≡ [])
    → IsBeside l before.content after.content
    → StreamsDrawn input output draft plan mid.random random mid.content content before.text after.text l r
    → Does input output v old (record mid { content = content; random = random }) before after r
streamed {D} {E} {input} {output} {v} {draft} {plan} {old} {mid} {random} {content} {before} {after} {read = whole} l r is read draft_is plans
    no_random inside beside call =
    let new : Inputs D = record mid { content = content; random = random } in
    let seen = seen_of input old new in
    let s : StreamsDrawn input output draft plan old.random random old.content content before.text after.text l r
    = subst (λ d. StreamsDrawn input output draft plan d random old.content content before.text after.text l r) read.no_random
    (subst (λ d. StreamsDrawn input output draft plan mid.random random d content before.text after.text l r) (read.no_content refl) call) in
    let inside_it : is_some l ≡ false → (front : List ℕ) → (fixed_by (plan (appended (input.consumed old.random) (input.consumed random))) front).content ≡ []
    = subst (λ d. is_some l ≡ false → (front : List ℕ) → (fixed_by (plan (appended (input.consumed d) (input.consumed random))) front).content ≡ [])
    read.no_random inside in
    let settled : (text keys : List ℕ) → IsPossibleInput seen.text text → IsPossibleInput seen.keys keys → draft_of v text keys ≡ draft
    = λ text keys text_may keys_may. rw (read.text text text_may, read.keys keys keys_may) draft_is in
    let seen_settled : draft_of v seen.text.octets seen.keys.octets ≡ draft
    = settled _ _ (seen_possible input.consumed input.is_at_end old.text new.text) (seen_possible input.consumed input.is_at_end old.keys new.keys) in
    let others : others_read v seen ≡ true = others_are is.reader seen ∙ rw (read.keys_end refl, read.text_ends) refl in
    let t : Streams input output (plan seen.random.octets) old.content content before.text after.text l r =
    s.streams _ (seen_possible input.consumed input.is_at_end old.random random) in
    let stands : beginning v seen ≡ begun (plan seen.random.octets) seen.content = rw (others, seen_settled, is.content, plans seen.random.octets) refl in
    record {
      answer = λ inputs may. rw (settled inputs.text inputs.keys may.text may.keys, is.content, plans inputs.random)
          (rw (wrote_is output.written l before.content after.content beside) at ((s.streams inputs.random may.random).answer inputs.content may.content));
      drawn = on_success r s.draws.drawn (λ drawn inputs may. rw (settled inputs.text inputs.keys may.text may.keys) drawn);
      at_most = λ inputs may. rw (settled inputs.text inputs.keys may.text may.keys) s.draws.at_most;
      beginning = both_on_refusal r t.beginning t.beginning_of_content (λ text part. rw stands (record {
        text = text;
        content = lent_or l (λ old new. AppendsPrefixOf (begun (plan seen.random.octets) seen.content).content (output.written old) (output.written new))
            before.content after.content beside (λ none. AppendsPrefixOf-kept _ _) part;
      }));
      held_back = if_always r _ (λ e holds. let streams = is.streams in cc);
      uncut = if_weaker r _ _ t.uncut (λ e uncut. record {
        text = uncut.0;
        content = lent_or l (λ old new. e ≢ Write → output.written new ≡ output.written old → new ≡ old) before.content after.content beside
            (λ none others same. refl) uncut.1;
      });
      unread = if_weaker r _ _ t.unread (λ e unread streams nothing. let u = unread (rw is.content at nothing) in record {
        text = u.0;
        content = lent_or l (λ old new. e ≢ Write → new ≡ old) before.content after.content beside (λ none others. refl) u.1;
      });
      keeps_up = λ told streams some. let u = t.keeps_up told (rw is.content at some) in rw (seen_settled, is.content, plans seen.random.octets) (
        u.0,
        lent_or l (λ old new. KeepsUp (λ front. (fixed_by (plan seen.random.octets) front).content) seen.content.octets (output.written old)
            (output.written new)) before.content after.content beside
            (λ none. kept_up_by_none _ (inside_it none) seen.content.octets (output.written before.content)) u.1,
      );
      content_first = on_refusal r t.content_first (λ first. elim (
          which_lent l (after.text ≡ before.text) output.endings
          (λ old new. IsTrue seen.content.ended × IsFinishedOnce output.is_finished output.endings old new
          × ((texts : OutputTexts) × (planned (plan seen.random.octets) seen.content.octets ≡ Ok texts)
          × (output.written new ≡ output.written old ++ texts.content))) before.content after.content beside first
          ) [ inl same ↦ inl same | inr wrote ↦ inr (λ has. rw (seen_settled, is.content, plans seen.random.octets) (wrote (sym is.content_out ∙ has))) ]);
      in_order = record {
        keys = λ unread. read.keys_in_order (rw is.reader.text at unread);
        random = λ unread. cc;
        content = λ unread. cc;
      };
      reads_first = if_always r _ (λ e inside usage. rw (others, is.streams) refl);
      random_first = λ short. t.content_last Random (sym (plans seen.random.octets) ∙ too_few draft seen.random.octets (rw seen_settled at short));
      memory_first = if_weaker r _ _ t.memory_first (λ e first memory. (is.reader.memory, λ streams. first memory));
      content_last = λ refusal refused. let none : draft ≡ Err refusal = sym seen_settled ∙ refused in
          (s.draws.untouched refusal none, t.content_last refusal (sym (plans seen.random.octets) ∙ ap (λ d. plan_from d seen.random.octets) none));
      finished = on_success r t.finished (λ done. (
        λ has. done.0,
        λ has. where_lent l (IsFinishedOnce output.is_finished output.endings) before.content after.content beside (sym is.content_out ∙ has) done.1,
      ));
      unfinished = on_refusal r t.unfinished (λ same. (same, λ none. let some = is.text_out in cc));
      untouched = record {
        text = λ none. let some = is.reader.text in cc;
        content = λ none. let some = is.content in cc;
        keys = λ none. let some = is.reader.keys in cc;
        random = λ none. no_random none ∙ read.no_random;
        text_out = λ none. let some = is.text_out in cc;
        content_out = λ none. not_lent l before.content after.content beside (sym is.content_out ∙ none);
      };
      faults = told_after output.failures l before.content after.content beside _ _ _ _ _ _ _ whole r read.faults s.faults;
    }

-- ---- keys that are refused

told_of_keys : {X Y : Type 0} (inputs : List Counts) (x : X) (e : Refusal) → e ≢ Read → e ≢ Write → TellsFaults inputs [] (Ok x)
    → TellsFaults {X = Y} inputs [] (Err e)
told_of_keys inputs x e not_read not_write told = record {
  works = tt;
  read = λ is. absurd (not_read (cc is));
  write = λ is. absurd (not_write (cc is));
  inputs_told = λ others. told.works.0;
  outputs_told = λ others. tt;
}

pub keys_refused : {D E : Type 0} {input : InputMembers D} {v : InvocationView} {detach : Bool} {old new : Inputs D} {read : WholeInputs} {e : Refusal}
    (output : OutputMembers E) (outs : Outputs E)
    → IsStreamer v detach → ReadsInputs input true false old new (Ok read)
    → (is_memory e ≡ false → (draft_of v read.text.items read.keys.items ≡ Err e) × (is_external e ≡ false))
    → (r : Result (Unit {0}) Refusal) → IsErrAnd r (λ refusal. refusal ≡ e) → Does input output v old new outs outs r
keys_refused {D} {E} {input} {v} {detach} {old} {new} {read = whole} {e} output outs is read refuses =
    let not_told : (device : Refusal) → is_memory device ≡ false → is_external device ≡ true → e ≢ device
    = λ device memory outside is. let inside = (refuses (ap is_memory is ∙ memory)).1 in let out = ap is_external is ∙ outside in cc in
    ends_early output outs is.reader read (told_of_keys {Y = WholeInputs} _ whole e (not_told Read refl refl) (not_told Write refl refl) read.faults)
    (λ inside. (
      others_are is.reader (seen_of input old new) ∙ rw (read.keys_end refl, read.text_ends) refl,
      is.streams,
      λ text keys text_may keys_may. rw (read.text text text_may, read.keys keys keys_may) (refuses (not_memory e inside)).0,
    ))

-- ---- a call without a random input

-- The result also reports the failures of a random input that is not read, which has none.
pub told_unread : (random : Counts) (inputs outputs : List Counts) (r : Result (Unit {0}) Refusal) → random.new ≡ random.old → TellsFaults inputs outputs r
    → TellsFaults (random ∷ inputs) outputs r
told_unread random inputs outputs (Ok done) same told =
    record { works = ((same, told.works.0), told.works.1); read = λ is. cc; write = λ is. cc; inputs_told = tt; outputs_told = tt }
told_unread random inputs outputs (Err e) same told =
    record {
      works = tt;
      read = λ is. inr (told.read is);
      write = told.write;
      inputs_told = λ others. (same, told.inputs_told others);
      outputs_told = told.outputs_told;
    }

-- The promises of a call without a random input, seen as a call that draws nothing.
pub drawn_from_none : {D E : Type 0} {input : InputMembers D} {output : OutputMembers E} (plan : Result (Plan OutputTexts) Refusal)
    (random content content' : D) (text text' : E) (l : Option (Lent E)) (r : Result (Unit {0}) Refusal)
    → Streams input output plan content content' text text' l r
    → TellsFaults (counts input.failures content content' ∷ []) (counts output.failures text text' ∷ counts_of output.failures l) r
    → StreamsDrawn input output (by_plan plan) (λ octets. plan) random random content content' text text' l r
drawn_from_none {input} plan random content content' text text' l r streams faults = record {
  draws = record {
    drawn = if_done r (nothing_drawn (input.consumed random) ∙ sym (by_plan_drawn plan));
    at_most = none_drawn (input.consumed random) _;
    untouched = λ refusal none. refl;
  };
  streams = λ octets may. streams;
  faults = told_unread _ _ _ r refl faults;
}
