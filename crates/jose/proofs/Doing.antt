-- The promises of a command follow from the promises of its steps.
use Rattle.std.proofs.Common.{◌≡◌, ◌<◌, ◌≤◌, ℕ, List, [], length, Bool, true, false, ◌&&◌, cond, IsTrue, Option, option_map, Result, Ok, Err, OnOk, IfErr, IsErrAnd, inl, inr, refl, sym, ap, subst, ◌∙◌, arith}
use Rattle.std.proofs.Math.Seq.{drop-length}
use Rattle.octets.specs.declared.refusal.Refusal.{Refusal}
use Rattle.octets.specs.declared.refusal.Refusal.TheVariants.{Read, Write}
use Rattle.octets.specs.Devices.{Observed, appended, IsPossibleInput, InputMembers, OutputMembers}
use Rattle.octets.specs.Faults.{Counts, TellsFaults}
use Rattle.octets.specs.Outcomes.{is_external, AgreesUnlessExternal}
use Rattle.octets.specs.Plan.{OutputTexts, drawn_of}
use Rattle.octets.proofs.Lemmas.{AppendsPrefixOf-kept, on_success, on_refusal, seen_possible, if_weaker}
use Rattle.objects.specs.Texts.{handed_in}
use Rattle.jose.specs.declared.commands.WholeInputs.{WholeInputs}
use Rattle.jose.specs.declared.ports.Inputs.{Inputs}
use Rattle.jose.specs.declared.ports.Outputs.{Outputs}
use Rattle.jose.specs.Invocations.{InvocationView}
use Rattle.jose.specs.Ports.{InputTexts, ObservedInputs, ArePossibleInputs, input_counts, written_texts, seen_of}
use Rattle.jose.specs.Meanings.{of_object}
use Rattle.jose.specs.Answer.{holds_back, takes_memory, answer, draft_of, content_seen, beginning, others_read, was_read, has_template, has_text_input, has_keys_input, has_content_input, has_text_output, has_content_output}
use Rattle.jose.specs.Doing.{Does}
use Rattle.jose.specs.Code.Steps.{ReadsInputs, WritesWhole, where_read, formed}
use Rattle.jose.proofs.Draws.{nothing_drawn, none_drawn}
use Rattle.jose.proofs.Objects.{beside_ended, begun_of_object, drawn_of_object, planned_of_object, refused_alone}

-- ---- what was seen of the inputs

-- the whole inputs, if nothing follows what was seen of them
abbrev pub seen_texts : {D : Type 0} → InputMembers D → Inputs D → Inputs D → InputTexts
seen_texts input old new = record {
  text = appended (input.consumed old.text) (input.consumed new.text);
  content = appended (input.consumed old.content) (input.consumed new.content);
  keys = appended (input.consumed old.keys) (input.consumed new.keys);
  random = appended (input.consumed old.random) (input.consumed new.random);
}

pub all_possible : {D : Type 0} (input : InputMembers D) (old new : Inputs D) → ArePossibleInputs (seen_of input old new) (seen_texts input old new)
all_possible input old new = record {
  text = seen_possible input.consumed input.is_at_end old.text new.text;
  content = seen_possible input.consumed input.is_at_end old.content new.content;
  keys = seen_possible input.consumed input.is_at_end old.keys new.keys;
  random = seen_possible input.consumed input.is_at_end old.random new.random;
}

-- ---- a command that reads its text, its keys and a content that is handed in with an object, each as a whole

pub record IsReader (v : InvocationView) (has_keys given : Bool) : Type 0 where
  pub text : has_text_input v.command ≡ true
  pub keys : has_keys_input v.command ≡ has_keys
  pub content : has_content_input v ≡ false → given ≡ false
  pub template : has_template v ≡ true
  pub memory : takes_memory v.command ≡ true
  -- If the content is handed in, the text and the keys alone are not refused, and nothing is drawn.
  pub refuses : (text keys : List ℕ) (refusal : Refusal) → draft_of v text keys ≡ Err refusal → given ≡ false
  pub draws : given ≡ true → (text keys : List ℕ) → drawn_of (draft_of v text keys) ≡ 0
  -- If the command writes as it reads, it has a content, and does not read it as a whole.
  pub streams : holds_back v.command ≡ false → given ≡ false
  pub streamed : holds_back v.command ≡ false → has_content_input v ≡ true

-- The inputs other than the content were read to their ends exactly if the text was, and the keys too if the command has them.
pub others_are : {v : InvocationView} {has_keys given : Bool} → IsReader v has_keys given → (seen : ObservedInputs)
    → others_read v seen ≡ (was_read has_keys seen.keys && seen.text.ended)
others_are {v} is seen = rw (is.keys, is.template) refl

pub drawn_for_none : {D : Type 0} (consumed : D → List ℕ) (old new : D) (most : ℕ) → new ≡ old → length (appended (consumed old) (consumed new)) ≤ most
drawn_for_none consumed old new most same = subst (λ d. length (appended (consumed old) (consumed d)) ≤ most) (sym same) (none_drawn (consumed old) most)

-- If too few octets are drawn, the content is untouched. If it is handed in, no octets are needed, and otherwise it was not read.
not_short : {v : InvocationView} {has_keys given : Bool} → IsReader v has_keys given → (P : Type 0) (n : ℕ) (text keys : List ℕ) → (given ≡ false → P)
    → n < drawn_of (draft_of v text keys) → P
not_short {v} {has_keys} {given} is P n text keys untouched short = by_given given refl
  where
    by_given : (g : Bool) → given ≡ g → P
    by_given true e = let none = is.draws e text keys in absurd (omega (arith, none, short))
    by_given false e = untouched e

-- ---- a command that ends before anything is drawn or written

-- Memory or an input failed, or the text and the keys that were read whole are refused.
pub ends_early : {D E X : Type 0} {input : InputMembers D} {v : InvocationView} {has_keys given : Bool} {old new : Inputs D} {e : Refusal}
    {res : Result WholeInputs Refusal} (output : OutputMembers E) (outs : Outputs E)
    → IsReader v has_keys given → ReadsInputs input has_keys given old new res → TellsFaults {X = X} (input_counts input.failures old new) [] (Err e)
    → (is_external e ≡ false → IsTrue (others_read v (seen_of input old new)) × (holds_back v.command ≡ false)
    × ((text keys : List ℕ) → IsPossibleInput (seen_of input old new).text text → IsPossibleInput (seen_of input old new).keys keys
    → draft_of v text keys ≡ Err e))
    → (r : Result (Unit {0}) Refusal) → IsErrAnd r (λ refusal. refusal ≡ e) → Does input output v old new outs outs r
ends_early output outs is read told refused (Ok done) same = absurd same
ends_early {D} {E} {X} {input} {v} {has_keys} {given} {old} {new} {e} output outs is read told refused (Err r) same =
    let inside : is_external r ≡ false → is_external e ≡ false = λ inside. sym (ap is_external same) ∙ inside in
    let seen = seen_of input old new in
    record {
      answer = λ inputs may internal. rw ((refused (inside internal)).2 inputs.text inputs.keys may.text may.keys, same) refl;
      drawn = tt;
      at_most = λ inputs may. drawn_for_none input.consumed old.random new.random _ read.no_random;
      beginning = record { text = AppendsPrefixOf-kept _ _; content = AppendsPrefixOf-kept _ _ };
      held_back = λ holds. record { text = λ spared. refl; content = λ others. refl };
      uncut = record { text = λ spared same. refl; content = λ others same. refl };
      unread = λ streams nothing. record { text = λ spared. refl; content = λ others. refl };
      keeps_up = λ told streams some. absurd (some (rw (is.streamed streams) (
          ap (λ d. appended (input.consumed old.content) (input.consumed d)) (read.no_content (is.streams streams)) ∙ drop-length (input.consumed old.content)
          )));
      content_first = inl (refl, refl);
      in_order = record {
        keys = λ unread. read.keys_in_order (rw is.text at unread);
        random = λ unread. read.no_random;
        content = λ unread. read.content_in_order (sym (others_are is seen) ∙ unread);
      };
      reads_first = λ internal usage. let f = refused (inside internal) in rw (f.0, f.1) refl;
      random_first = not_short is (new.content ≡ old.content) _ _ _ read.no_content;
      memory_first = λ memory. (is.memory, λ streams. read.no_content (is.streams streams));
      content_last = λ refusal refused. (read.no_random, read.no_content (is.refuses _ _ refusal refused));
      finished = tt;
      unfinished = (refl, λ none. refl);
      untouched = record {
        text = λ none. let some = is.text in cc;
        content = λ none. read.no_content (is.content none);
        keys = λ none. read.no_keys (sym is.keys ∙ none);
        random = λ none. read.no_random;
        text_out = λ none. refl;
        content_out = λ none. refl;
      };
      faults = record {
        works = tt;
        read = λ is. let failed : r ≡ Read = cc is in told.read (ap Err (sym same ∙ failed));
        write = λ is. let failed : r ≡ Write = cc is in absurd (told.write (ap Err (sym same ∙ failed)));
        inputs_told = λ others. told.inputs_told (λ failed. others (same ∙ failed));
        outputs_told = λ others. (refl, (refl, tt));
      };
    }

-- The inputs could not be read.
pub not_read : {D E : Type 0} {input : InputMembers D} {v : InvocationView} {has_keys given : Bool} {old new : Inputs D} {e : Refusal}
    (output : OutputMembers E) (outs : Outputs E)
    → IsReader v has_keys given → ReadsInputs input has_keys given old new (Err e) → (r : Result (Unit {0}) Refusal) → IsErrAnd r (λ refusal. refusal ≡ e)
    → Does input output v old new outs outs r
not_read output outs is read = ends_early output outs is read read.faults (λ inside. let outside = read.cause in cc)

-- ---- what holds at each refusal

pub if_always : {X : Type 0} (r : Result X Refusal) (P : Refusal → Type 0) → ((e : Refusal) → P e) → IfErr r P
if_always (Ok x) P holds = tt
if_always (Err e) P holds = holds e

pub if_done : {X : Type 0} {P : Type 0} (r : Result X Refusal) → P → OnOk r P
if_done (Ok x) p = p
if_done (Err e) p = tt

-- The inputs did not fail, so the result reports the failures of the outputs.
pub told_both : {X Y : Type 0} (inputs outputs : List Counts) (x : X) (r : Result Y Refusal) → TellsFaults inputs [] (Ok x) → TellsFaults [] outputs r
    → TellsFaults inputs outputs r
told_both inputs outputs x (Ok done) i o = record { works = (i.works.0, o.works.1); read = λ told. cc; write = λ told. cc; inputs_told = tt; outputs_told = tt }
told_both inputs outputs x (Err e) i o = record {
  works = tt;
  read = λ told. absurd (o.read told);
  write = o.write;
  inputs_told = λ others. i.works.0;
  outputs_told = o.outputs_told;
}

-- ---- a command that answers whole inputs

pub record IsWhole (v : InvocationView) (has_keys given has_text has_content : Bool)
    (answer : List ℕ → List ℕ → Option (List ℕ) → Result OutputTexts Refusal) : Type 0 where
  pub text : has_text_input v.command ≡ true
  pub keys : has_keys_input v.command ≡ has_keys
  pub content : has_content_input v ≡ given
  pub memory : takes_memory v.command ≡ true
  pub holds : holds_back v.command ≡ true
  pub draft : (text keys : List ℕ) → draft_of v text keys ≡ of_object given (answer text (where_read has_keys keys))
  pub text_out : has_text_output v ≡ has_text
  pub content_out : has_content_output v ≡ has_content

pub reader_of : {v : InvocationView} {has_keys given has_text has_content : Bool} {answer : List ℕ → List ℕ → Option (List ℕ) → Result OutputTexts Refusal}
    → IsWhole v has_keys given has_text has_content answer → IsReader v has_keys given
reader_of {v} {has_keys} {given} {has_text} {has_content} {answer} is = record {
  text = is.text;
  keys = is.keys;
  content = λ none. sym is.content ∙ none;
  template = rw (is.text, is.holds) refl;
  memory = is.memory;
  refuses = λ text keys refusal refused. refused_alone given (answer text (where_read has_keys keys)) refusal (sym (is.draft text keys) ∙ refused);
  draws = λ there text keys. ap drawn_of (is.draft text keys) ∙ drawn_of_object given (answer text (where_read has_keys keys));
  streams = λ streams. let holds = is.holds in cc;
  streamed = λ streams. let holds = is.holds in cc;
}

keys_were_read : (has_keys ended : Bool) (octets : List ℕ) → (IsTrue has_keys → IsTrue ended)
    → was_read has_keys (record { octets = octets; ended = ended }) ≡ true
keys_were_read true ended octets ends = ends refl
keys_were_read false ended octets ends = refl

beside_seen : (given : Bool) (content : Observed) → (IsTrue given → IsTrue content.ended)
    → (cond given content (record { octets = []; ended = true })).ended ≡ true
beside_seen true content ends = ends refl
beside_seen false content ends = refl

pub wrote_whole : {D E : Type 0} {input : InputMembers D} {output : OutputMembers E} {v : InvocationView} {has_keys given has_text has_content : Bool}
    {answer : List ℕ → List ℕ → Option (List ℕ) → Result OutputTexts Refusal} {old new : Inputs D} {before after : Outputs E} {read : WholeInputs}
    (r : Result (Unit {0}) Refusal)
    → IsWhole v has_keys given has_text has_content answer → ReadsInputs input has_keys given old new (Ok read)
    → WritesWhole output has_text has_content (answer read.text.items read.keys.items (option_map (λ c. c.items) read.content)) before after r
    → Does input output v old new before after r
wrote_whole {D} {E} {input} {output} {v} {has_keys} {given} {has_text} {has_content} {answer = by} {old} {new} {before} {after} {read = whole} r is read wrote =
    let reader : IsReader v has_keys given = reader_of is in
    let seen = seen_of input old new in
    let all = by whole.text.items whole.keys.items (option_map (λ c. c.items) whole.content) in
    let read_as : (inputs : InputTexts) → ArePossibleInputs seen inputs
    → by inputs.text (where_read has_keys inputs.keys) (handed_in given inputs.content) ≡ all
    = λ inputs may. rw (read.text inputs.text may.text, read.keys inputs.keys may.keys, read.content inputs.content may.content) refl in
    let answered : (inputs : InputTexts) → ArePossibleInputs seen inputs → answer v inputs ≡ all
    = λ inputs may. rw (is.draft inputs.text inputs.keys, is.content, is.holds)
    (planned_of_object given (by inputs.text (where_read has_keys inputs.keys)) inputs.random inputs.content ∙ read_as inputs may) in
    let others : others_read v seen ≡ true = others_are reader seen
    ∙ rw (keys_were_read has_keys seen.keys.ended seen.keys.octets read.keys_end, read.text_ends) refl in
    let ended : (content_seen v seen).ended ≡ true
    = rw (is.content, is.holds) (beside_seen given seen.content read.content_ends) in
    let stands : beginning v seen ≡ formed all true
    = rw (others, is.draft seen.text.octets seen.keys.octets, is.content, is.holds)
    (begun_of_object given true (by seen.text.octets (where_read has_keys seen.keys.octets)) seen.random.octets seen.content
    ∙ rw (read_as (seen_texts input old new) (all_possible input old new), beside_ended given seen.content.ended read.content_ends) refl) in
    record {
      answer = λ inputs may. subst (λ a. AgreesUnlessExternal a (written_texts output.written before after) r) (sym (answered inputs may)) wrote.agrees;
      drawn = on_success r wrote.finished (λ done inputs may.
          ap (λ d. length (appended (input.consumed old.random) (input.consumed d))) read.no_random ∙ nothing_drawn (input.consumed old.random)
          ∙ sym (ap drawn_of (is.draft inputs.text inputs.keys) ∙ drawn_of_object given (by inputs.text (where_read has_keys inputs.keys))));
      at_most = λ inputs may. drawn_for_none input.consumed old.random new.random _ read.no_random;
      beginning = on_refusal r wrote.beginning (λ part. rw stands part);
      held_back = if_weaker r _ _ wrote.held_back (λ e spared holds. spared);
      uncut = if_weaker r _ _ wrote.held_back (λ e spared. record { text = λ is same. spared.text is; content = λ is same. spared.content is });
      unread = if_weaker r _ _ wrote.held_back (λ e spared streams nothing. spared);
      keeps_up = λ told streams some. let holds = is.holds in cc;
      content_first = on_refusal r wrote.content_first (λ first. elim first [
        | inl same ↦ inl same
        | inr whole ↦ inr (λ has. let w = whole (sym is.content_out ∙ has) in
            (ended, w.0, (w.1.0, answered (seen_texts input old new) (all_possible input old new) ∙ w.1.1, w.1.2)))
      ]);
      in_order = record {
        keys = λ unread. read.keys_in_order (rw is.text at unread);
        random = λ unread. read.no_random;
        content = λ unread. read.content_in_order (sym (others_are reader seen) ∙ unread);
      };
      reads_first = if_always r _ (λ e inside usage. rw (others, ended, is.holds) refl);
      random_first = not_short reader (new.content ≡ old.content) _ _ _ read.no_content;
      memory_first = if_always r _ (λ e memory. (is.memory, λ streams. read.no_content (reader.streams streams)));
      content_last = λ refusal refused. (read.no_random, read.no_content (reader.refuses _ _ refusal refused));
      finished = on_success r wrote.finished (λ done. (λ has. done.0 (sym is.text_out ∙ has), λ has. done.1 (sym is.content_out ∙ has)));
      unfinished = on_refusal r wrote.unfinished (λ same. (same.0, λ none. same.1 (sym is.text_out ∙ none)));
      untouched = record {
        text = λ none. let some = is.text in cc;
        content = λ none. read.no_content (sym is.content ∙ none);
        keys = λ none. read.no_keys (sym is.keys ∙ none);
        random = λ none. read.no_random;
        text_out = λ none. wrote.no_text (sym is.text_out ∙ none);
        content_out = λ none. wrote.no_content (sym is.content_out ∙ none);
      };
      faults = told_both _ _ whole r read.faults wrote.faults;
    }
