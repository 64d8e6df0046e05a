-- What the calls of a run say of its files.
use Rattle.std.proofs.lemmas.List.Folds.{list_any-append}
use Rattle.std.specs.List.{list_any}
use Rattle.tools.specs.declared.tool_cause.Why.{Why}
use Rattle.std.proofs.Common.{◌≡◌, ◌∙◌, ℕ, ◌+◌, suc, if◌then◌else◌, Bool, true, List, [], ◌∷◌, ◌++◌, length, Some, Result, Ok, Err, refl, sym, ap, subst, append_assoc, ◌≢◌, false, Option, None, ◌⊎◌, inl, inr}
use Rattle.std.proofs.lemmas.Bool.{or_parts}
use Rattle.std.proofs.lemmas.List.{append-nil}
use Rattle.tools.specs.declared.put_files.NotOpened.{NotOpened}
use Rattle.tools.specs.declared.tool_cause.Place.{Place}
use Rattle.tools.specs.declared.tool_cause.Place.TheVariants.{Beside, Target, File}
use Rattle.tools.specs.declared.tool_cause.ToolCause.{ToolCause}
use Rattle.tools.specs.declared.tool_cause.ToolCause.TheVariants.{At, Output}
use Rattle.tools.specs.declared.tool_cause.Why.TheVariants as why
use Rattle.tools.specs.Calls.{Call, opened, read_opened, read, created, wrote, owned, synced, put, folder_synced, written_out, removed}
use Rattle.tools.specs.ChangeLaws.{AddsAreWhole, RemovalsAreWhole, locking, reads, rewriting, Has, RefusalsDeleteWhatIsNew, RefusalsReplaceNothing, is_put}
use Rattle.tools.specs.Changes.{Deletes, Editing, adding, removing, Edits, Opens, Gathers, Judges, ReadsEdited, Refills, Rewrites, Undoes, beside, Creates, EndsAt, Fills, Places, PutsClaimed, Reads, ReadsJoined, joins, adds, removes}
use Rattle.tools.specs.SetHeadline.{joined_from}
use Rattle.tools.specs.Sets.{JoinedKeys, no_keys, set_keys, set_text, text_without, with_text}
use Rattle.tools.specs.Steps.{Step, Computes, Then, stops, goes_on, Calls}

-- ---- one step after another

pub record Went {A B : Type 0} (first : Step A) (next : A → Step B) (calls : List Call) (result : Result B ToolCause) : Type 0 where
  pub x : A
  pub front : List Call
  pub rest : List Call
  pub calls_are : calls ≡ front ++ rest
  pub begins : first front (Ok x)
  pub ends : next x rest result

then_ok : {A B : Type 0} {first : Step A} {next : A → Step B} {calls : List Call} {y : B} → Then first next calls (Ok y) → Went first next calls (Ok y)
then_ok (stops cause f e) = cc e
then_ok (goes_on x front rest is f n) = record { x = x; front = front; rest = rest; calls_are = is; begins = f; ends = n }

computed : {A : Type 0} {answer : Result A ToolCause} {calls : List Call} {x : A} → Computes answer calls (Ok x) → (calls ≡ []) × (answer ≡ Ok x)
computed c = (c.none, c.gives)

both_are : {a b front rest calls : List Call} → calls ≡ front ++ rest → front ≡ a → rest ≡ b → calls ≡ a ++ b
both_are is ha hb = cc

-- ---- reading

judged : {A : Type 0} (call : Option (List ℕ) → Call) {place : Place} {judge : List ℕ → Result A ToolCause} {calls : List Call} {x : A} → Judges call place judge calls (Ok x)
    → (text : List ℕ) × ((judge text ≡ Ok x) × (calls ≡ call (Some text) ∷ []))
judged call j = let w = then_ok j in (w.x, (w.ends.gives, w.calls_are ∙ ap (λ cs. cs ++ w.rest) w.begins ∙ ap (λ cs. call (Some w.x) ∷ cs) w.ends.none))

gathered : (at : ℕ) (joined all : JoinedKeys) (files : List (List ℕ)) (calls : List Call) → Gathers at joined files calls (Ok all)
    → (texts : List (List ℕ)) × ((joined_from at joined texts ≡ Ok all) × (length texts ≡ length files) × (calls ≡ reads files texts))
gathered at joined all [] calls g = ([], (g.gives, refl, g.none))
gathered at joined all (file ∷ files) calls g =
    let w = then_ok g in
    let one = judged (read file) w.begins in
    let later = gathered (at + 1) w.x all files w.rest w.ends in (
      one.0 ∷ later.0,
      (
        rw one.1.0 later.1.0,
        ap suc later.1.1,
        w.calls_are ∙ ap (λ cs. cs ++ w.rest) one.1.1 ∙ ap (λ cs. read file (Some one.0) ∷ cs) later.1.2,
      ),
    )

-- ---- success

refilled : (path set text : List ℕ) (calls : List Call) → Refills path set text calls (Ok tt)
    → calls ≡ wrote path text true ∷ owned path set true ∷ synced path true ∷ put path set true ∷ []
refilled path set text calls r =
    let a = then_ok r in
    let b = then_ok a.ends in
    let d = then_ok b.ends in
    a.calls_are ∙ ap (λ cs. cs ++ a.rest) a.begins
    ∙ ap (λ cs. wrote path text true ∷ cs) (b.calls_are ∙ ap (λ cs. cs ++ b.rest) b.begins
    ∙ ap (λ cs. owned path set true ∷ cs) (d.calls_are ∙ ap (λ cs. cs ++ d.rest) d.begins ∙ ap (λ cs. synced path true ∷ cs) d.ends))

-- what was not undone succeeded, and nothing was deleted
kept : (path : List ℕ) (place : Place) (step : Step (Unit {0})) (calls : List Call) → Undoes path place step calls (Ok tt) → step calls (Ok tt)
kept path place step calls u = by_outcome u.outcome u.takes u.deletes
  where
    by_outcome : (outcome : Result (Unit {0}) ToolCause) → step u.front outcome → Deletes path place outcome u.rest (Ok tt) → step calls (Ok tt)
    by_outcome (Ok done) t d = subst (λ cs. step cs (Ok tt)) (sym (u.calls_are ∙ ap (λ cs. u.front ++ cs) d.0 ∙ append-nil u.front)) t
    by_outcome (Err cause) t d = never d.0 d.1.1
      where
        never : (did : Bool) → (let r : Result (Unit {0}) ToolCause = Ok tt in r) ≡ Err (if did then cause else At place why.NotDeleted) → step calls (Ok tt)
        never did h = cc h

pub record IsEdited (set : List ℕ) (edit : Editing) (calls : List Call) : Type 0 where
  pub text : List ℕ
  pub middle : List Call
  pub reading : ReadsEdited set edit middle (Ok text)
  pub calls_are : calls ≡ locking set ++ (middle ++ rewriting set text)

edited : (set : List ℕ) (edit : Editing) (calls : List Call) → Edits set edit calls (Ok tt) → IsEdited set edit calls
edited set edit calls e =
    let a = then_ok e in
    let b = then_ok a.ends in
    let name : b.x ≡ beside set = name_is b.begins.gives in
    let d = then_ok b.ends in
    let f = then_ok d.ends in
    let r = then_ok (kept b.x Beside (Rewrites b.x set edit) f.front f.begins) in
    let filled = refilled b.x set r.x r.rest r.ends in
    record {
      text = r.x;
      middle = r.front;
      reading = r.begins;
      calls_are = all_are set b.x r.x r.front name a.calls_are a.begins b.calls_are b.begins.none d.calls_are d.begins f.calls_are r.calls_are filled f.ends;
    }
  where
    name_is : {x : List ℕ} → (let r : Result (List ℕ) ToolCause = Ok (beside set) in r) ≡ Ok x → x ≡ beside set
    name_is h = cc h

    all_are : (set path text : List ℕ) (r1 : List Call) {calls a1 a2 b1 b2 d1 d2 f1 f2 r2 : List Call} → path ≡ beside set → calls ≡ a1 ++ a2 → a1 ≡ opened set (Ok tt) ∷ []
        → a2 ≡ b1 ++ b2 → b1 ≡ [] → b2 ≡ d1 ++ d2 → d1 ≡ created path (Ok tt) ∷ [] → d2 ≡ f1 ++ f2 → f1 ≡ r1 ++ r2
        → r2 ≡ wrote path text true ∷ owned path set true ∷ synced path true ∷ put path set true ∷ [] → f2 ≡ folder_synced set true ∷ []
        → calls ≡ locking set ++ (r1 ++ rewriting set text)
    all_are set path text r1 name ha ha1 ha2 hb1 hb2 hd1 hd2 hf1 hr2 hf2 =
        rw (ha, ha1, ha2, hb1, hb2, hd1, hd2, hf1, hr2, hf2, name) (ap (λ cs. locking set ++ cs) (append_assoc r1 _ _))

pub adds_are_whole : AddsAreWhole
adds_are_whole set files calls e =
    let d = edited set (adding files) calls e in
    let a = then_ok d.reading in
    let first = judged (read_opened set) a.begins in
    let b = then_ok a.ends in
    let later = gathered 0 a.x b.x files b.front b.begins in
    let middle : d.middle ≡ read_opened set (Some first.0) ∷ reads files later.0
    = a.calls_are ∙ ap (λ cs. cs ++ a.rest) first.1.1 ∙ ap (λ cs. read_opened set (Some first.0) ∷ cs)
    (b.calls_are ∙ ap (λ cs. cs ++ b.rest) later.1.2 ∙ ap (λ cs. reads files later.0 ++ cs) b.ends.none ∙ append-nil (reads files later.0)) in (
      first.0,
      (later.0, (d.text, (rw (first.1.0, later.1.0) b.ends.gives, later.1.1, d.calls_are ∙ ap (λ cs. locking set ++ (cs ++ rewriting set d.text)) middle))),
    )

pub removals_are_whole : RemovalsAreWhole
removals_are_whole set names calls e =
    let d = edited set (removing names) calls e in
    let a = judged (read_opened set) d.reading in
    (a.0, (d.text, (a.1.0, d.calls_are ∙ ap (λ cs. locking set ++ (cs ++ rewriting set d.text)) a.1.1)))

-- ---- refusals

-- the test fails at every call that neither creates a file nor puts one in its place
pub record Ignores (test : Call → Bool) : Type 0 where
  pub opens : (path : List ℕ) (answer : Result (Unit {0}) NotOpened) → test (opened path answer) ≡ false
  pub takes_set : (path : List ℕ) (text : Option (List ℕ)) → test (read_opened path text) ≡ false
  pub takes : (path : List ℕ) (text : Option (List ℕ)) → test (read path text) ≡ false
  pub prints : (text : List ℕ) (did : Bool) → test (written_out text did) ≡ false
  pub writes : (path text : List ℕ) (did : Bool) → test (wrote path text did) ≡ false
  pub owns : (path old : List ℕ) (did : Bool) → test (owned path old did) ≡ false
  pub syncs : (path : List ℕ) (did : Bool) → test (synced path did) ≡ false
  pub fails : (from to : List ℕ) → test (put from to false) ≡ false
  pub deletes : (path : List ℕ) (did : Bool) → test (removed path did) ≡ false

module _ (test : Call → Bool) (none : Ignores test) where
  abbrev Without : List Call → Type 0
  Without calls = list_any test calls ≡ false

  without_both : (xs ys : List Call) → Without xs → Without ys → Without (xs ++ ys)
  without_both xs ys hx hy = list_any-append test xs ys ∙ rw (hx, hy) refl

  only : (calls : List Call) (call : Call) → calls ≡ call ∷ [] → test call ≡ false → Without calls
  only calls call is h = ap (list_any test) is ∙ rw h refl

  nothing : (calls : List Call) → calls ≡ [] → Without calls
  nothing calls is = ap (list_any test) is

  then_without : {A B : Type 0} {first : Step A} {next : A → Step B} {calls : List Call} {result : Result B ToolCause} → Then first next calls result
      → ((cs : List Call) (r : Result A ToolCause) → first cs r → Without cs) → ((x : A) (cs : List Call) → next x cs result → Without cs) → Without calls
  then_without (stops cause f e) hf hn = hf _ _ f
  then_without (goes_on x front rest is f n) hf hn = ap (list_any test) is ∙ without_both front rest (hf front (Ok x) f) (hn x rest n)

  call_without : (call : Bool → Call) (cause : ToolCause) → ((did : Bool) → test (call did) ≡ false) → (cs : List Call) (r : Result (Unit {0}) ToolCause)
      → Calls call cause cs r → Without cs
  call_without call cause h cs (Ok done) is = only cs (call true) is (h true)
  call_without call cause h cs (Err e) is = only cs (call false) is.0 (h false)

  computes_without : {A : Type 0} (answer : Result A ToolCause) (cs : List Call) (r : Result A ToolCause) → Computes answer cs r → Without cs
  computes_without answer cs r c = nothing cs c.none

  reads_without : (call : Option (List ℕ) → Call) → ((text : Option (List ℕ)) → test (call text) ≡ false) → (place : Place) (cs : List Call)
      (r : Result (List ℕ) ToolCause) → Reads call place cs r → Without cs
  reads_without call h place cs (Ok text) is = only cs (call (Some text)) is (h (Some text))
  reads_without call h place cs (Err e) is = only cs (call None) is.1.0 (h None)

  judges_without : {A : Type 0} (call : Option (List ℕ) → Call) → ((text : Option (List ℕ)) → test (call text) ≡ false) → (place : Place)
      (judge : List ℕ → Result A ToolCause) (cs : List Call) (r : Result A ToolCause) → Judges call place judge cs r → Without cs
  judges_without call h place judge cs r j = then_without j (reads_without call h place) (λ text cs. computes_without (judge text) cs r)

  gathers_without : (files : List (List ℕ)) (at : ℕ) (joined : JoinedKeys) (cs : List Call) (r : Result JoinedKeys ToolCause)
      → Gathers at joined files cs r → Without cs
  gathers_without [] at joined cs r g = nothing cs g.none
  gathers_without (file ∷ files) at joined cs r g =
      then_without g (judges_without (read file) (none.takes file) (File at) (with_text (File at) joined)) (λ more cs. gathers_without files (at + 1) more cs r)

  joined_without : (files : List (List ℕ)) (cs : List Call) (r : Result (List ℕ) ToolCause) → ReadsJoined files cs r → Without cs
  joined_without files cs r j = then_without j (gathers_without files 0 no_keys) (λ joined cs. computes_without (Ok (set_text joined.objects)) cs r)

  edited_without : (set : List ℕ) (edit : Editing) (cs : List Call) (r : Result (List ℕ) ToolCause) → ReadsEdited set edit cs r → Without cs
  edited_without set (adding files) cs r j = then_without j (judges_without (read_opened set) (none.takes_set set) Target set_keys)
      (λ first cs k. then_without k (gathers_without files 0 first) (λ joined cs. computes_without (Ok (set_text joined.objects)) cs r))
  edited_without set (removing names) cs r j = judges_without (read_opened set) (none.takes_set set) Target (text_without names) cs r j

  opens_without : (set : List ℕ) (cs : List Call) (r : Result (Unit {0}) ToolCause) → Opens set cs r → Without cs
  opens_without set cs (Ok done) is = only cs (opened set (Ok tt)) is (none.opens set (Ok tt))
  opens_without set cs (Err e) is = only cs (opened set (Err is.0)) is.1.0 (none.opens set (Err is.0))

  places_without : (path target : List ℕ) (cs : List Call) (cause : ToolCause) → Places path target cs (Err cause) → Without cs
  places_without path target cs cause p = then_without p (call_without (synced path) (At Beside why.NotOnDisk) (none.syncs path))
      (λ done cs q. only cs (put path target false) q.0 (none.fails path target))

  fills_without : (path target text : List ℕ) (cs : List Call) (cause : ToolCause) → Fills path target text cs (Err cause) → Without cs
  fills_without path target text cs cause f = then_without f (call_without (wrote path text) (At Beside why.NotWritten) (none.writes path text))
      (λ done cs. places_without path target cs cause)

  refills_without : (path target text : List ℕ) (cs : List Call) (cause : ToolCause) → Refills path target text cs (Err cause) → Without cs
  refills_without path target text cs cause f = then_without f (call_without (wrote path text) (At Beside why.NotWritten) (none.writes path text))
      (λ done cs g. then_without g (call_without (owned path target) (At Beside why.NotWritten) (none.owns path target))
      (λ done cs. places_without path target cs cause))

  rewrites_without : (path set : List ℕ) (edit : Editing) (cs : List Call) (cause : ToolCause) → Rewrites path set edit cs (Err cause) → Without cs
  rewrites_without path set edit cs cause w = then_without w (edited_without set edit) (λ text cs. refills_without path set text cs cause)

-- what was undone had a cause, and its file was deleted
pub record IsUndone (path : List ℕ) (step : Step (Unit {0})) (calls : List Call) : Type 0 where
  pub first : ToolCause
  pub front : List Call
  pub did : Bool
  pub takes : step front (Err first)
  pub calls_are : calls ≡ front ++ removed path did ∷ []

was_undone : (path : List ℕ) (place : Place) (step : Step (Unit {0})) (calls : List Call) (cause : ToolCause) → Undoes path place step calls (Err cause)
    → IsUndone path step calls
was_undone path place step calls cause u = by_outcome u.outcome u.takes u.deletes
  where
    by_outcome : (outcome : Result (Unit {0}) ToolCause) → step u.front outcome → Deletes path place outcome u.rest (Err cause) → IsUndone path step calls
    by_outcome (Ok done) t d = cc d.1
    by_outcome (Err first) t d = record { first = first; front = u.front; did = d.0; takes = t; calls_are = u.calls_are ∙ ap (λ cs. u.front ++ cs) d.1.0 }

-- ---- nothing is put

puts_are_none : Ignores is_put
puts_are_none = record {
  opens = λ path answer. refl;
  takes_set = λ path text. refl;
  takes = λ path text. refl;
  prints = λ text did. refl;
  writes = λ path text did. refl;
  owns = λ path old did. refl;
  syncs = λ path did. refl;
  fails = λ from to. refl;
  deletes = λ path did. refl;
}

abbrev NonePut : List Call → Type 0
NonePut calls = list_any is_put calls ≡ false

creates_none_put : (path : List ℕ) (place : Place) (taken : Why) (cs : List Call) (r : Result (Unit {0}) ToolCause) → Creates path place taken cs r → NonePut cs
creates_none_put path place taken cs (Ok done) is = ap (list_any is_put) is
creates_none_put path place taken cs (Err e) is = ap (list_any is_put) is.1.0

undone_none_put : (path : List ℕ) (place : Place) (step : Step (Unit {0})) (cs : List Call) (cause : ToolCause)
    → ((front : List Call) (first : ToolCause) → step front (Err first) → NonePut front) → Undoes path place step cs (Err cause) → NonePut cs
undone_none_put path place step cs cause h u =
    let w = was_undone path place step cs cause u in
    ap (list_any is_put) w.calls_are ∙ without_both is_put puts_are_none w.front (removed path w.did ∷ []) (h w.front w.first w.takes) refl

-- A step that undoes, and then the folder: if it has another cause than that of the folder, nothing was put.
ends_none_put : (path target : List ℕ) (place : Place) (step : Step (Unit {0})) (cs : List Call) (cause : ToolCause) → cause ≢ At Target why.FolderNotOnDisk
    → ((front : List Call) (first : ToolCause) → step front (Err first) → NonePut front)
    → Then (Undoes path place step) (λ done. EndsAt target) cs (Err cause) → NonePut cs
ends_none_put path target place step cs cause not h (stops first u e) = let same : cause ≡ first = cc e in undone_none_put path place step cs first h u
ends_none_put path target place step cs cause not h (goes_on x front rest is f n) = absurd (not n.1)

edits_none_put : (set : List ℕ) (edit : Editing) (cs : List Call) (cause : ToolCause) → cause ≢ At Target why.FolderNotOnDisk
    → Edits set edit cs (Err cause) → NonePut cs
edits_none_put set edit cs cause not e =
    then_without is_put puts_are_none e (opens_without is_put puts_are_none set) (λ done cs k.
    then_without is_put puts_are_none k (λ cs r. computes_without is_put puts_are_none (Ok (beside set)) cs r) (λ path cs m.
    then_without is_put puts_are_none m (creates_none_put path Beside why.Claimed)
    (λ done cs. ends_none_put path set Beside (Rewrites path set edit) cs cause not (rewrites_without is_put puts_are_none path set edit))))

claimed_none_put : (path target text : List ℕ) (cs : List Call) (cause : ToolCause) → PutsClaimed path target text cs (Err cause) → NonePut cs
claimed_none_put path target text cs cause p = then_without is_put puts_are_none p (creates_none_put path Beside why.Claimed)
    (λ done cs. undone_none_put path Beside (Fills path target text) cs cause (fills_without is_put puts_are_none path target text))

pub refusals_replace_nothing : RefusalsReplaceNothing
refusals_replace_nothing (joins None files) cs cause j not =
    then_without is_put puts_are_none j (joined_without is_put puts_are_none files)
    (λ text cs. call_without is_put puts_are_none (written_out text) Output (puts_are_none.prints text) cs (Err cause))
refusals_replace_nothing (joins (Some new) files) cs cause j not =
    then_without is_put puts_are_none j (joined_without is_put puts_are_none files) (λ text cs k.
    then_without is_put puts_are_none k (λ cs r. computes_without is_put puts_are_none (Ok (beside new)) cs r) (λ path cs m.
    then_without is_put puts_are_none m (creates_none_put new Target why.Exists)
    (λ done cs. ends_none_put new new Target (PutsClaimed path new text) cs cause not (claimed_none_put path new text))))
refusals_replace_nothing (adds set files) cs cause e not = edits_none_put set (adding files) cs cause not e
refusals_replace_nothing (removes set names) cs cause e not = edits_none_put set (removing names) cs cause not e

-- ---- what is new is deleted

abbrev is_created : Call → Bool
is_created (created path (Ok done)) = true
is_created call = false

creations_are_none : Ignores is_created
creations_are_none = record {
  opens = λ path answer. refl;
  takes_set = λ path text. refl;
  takes = λ path text. refl;
  prints = λ text did. refl;
  writes = λ path text did. refl;
  owns = λ path old did. refl;
  syncs = λ path did. refl;
  fails = λ from to. refl;
  deletes = λ path did. refl;
}

abbrev NoneCreated : List Call → Type 0
NoneCreated calls = list_any is_created calls ≡ false

has_left : (call : Call) (xs ys : List Call) → Has call xs → Has call (xs ++ ys)
has_left call [] ys h = absurd h
has_left call (x ∷ xs) ys (inl is) = inl is
has_left call (x ∷ xs) ys (inr h) = inr (has_left call xs ys h)

has_right : (call : Call) (xs ys : List Call) → Has call ys → Has call (xs ++ ys)
has_right call [] ys h = h
has_right call (x ∷ xs) ys h = inr (has_right call xs ys h)

has_split : (call : Call) (xs ys : List Call) → Has call (xs ++ ys) → Has call xs ⊎ Has call ys
has_split call [] ys h = inr h
has_split call (x ∷ xs) ys (inl is) = inl (inl is)
has_split call (x ∷ xs) ys (inr h) = by_part (has_split call xs ys h)
  where
    by_part : Has call xs ⊎ Has call ys → Has call (x ∷ xs) ⊎ Has call ys
    by_part (inl h) = inl (inr h)
    by_part (inr h) = inr h

-- each file that these calls created was deleted by one of them
abbrev DeletesNew : List Call → Type 0
DeletesNew calls = (path : List ℕ) → Has (created path (Ok tt)) calls → (did : Bool) × Has (removed path did) calls

none_has : (calls : List Call) (path : List ℕ) → NoneCreated calls → Has (created path (Ok tt)) calls → ⊥
none_has [] path none h = h
none_has (x ∷ xs) path none (inl is) = let here : is_created x ≡ true = ap is_created is in let parts = or_parts (is_created x) (list_any is_created xs) none in cc (here, parts.0)
none_has (x ∷ xs) path none (inr h) = none_has xs path (or_parts (is_created x) (list_any is_created xs) none).1 h

none_deletes : (calls : List Call) → NoneCreated calls → DeletesNew calls
none_deletes calls none path h = absurd (none_has calls path none h)

behind_none : (calls front rest : List Call) → calls ≡ front ++ rest → NoneCreated front → DeletesNew rest → DeletesNew calls
behind_none calls front rest is none later path h = by_part (has_split (created path (Ok tt)) front rest (subst (Has (created path (Ok tt))) is h))
  where
    by_part : Has (created path (Ok tt)) front ⊎ Has (created path (Ok tt)) rest → (did : Bool) × Has (removed path did) calls
    by_part (inl k) = absurd (none_has front path none k)
    by_part (inr k) = let d = later path k in (d.0, subst (Has (removed path d.0)) (sym is) (has_right (removed path d.0) front rest d.1))

then_deletes : {A B : Type 0} {first : Step A} {next : A → Step B} {calls : List Call} {result : Result B ToolCause} → Then first next calls result
    → ((cs : List Call) (r : Result A ToolCause) → first cs r → NoneCreated cs) → ((x : A) (cs : List Call) → next x cs result → DeletesNew cs) → DeletesNew calls
then_deletes {calls} (stops cause f e) hf hn = none_deletes calls (hf _ _ f)
then_deletes {calls} (goes_on x front rest is f n) hf hn = behind_none calls front rest is (hf front (Ok x) f) (hn x rest n)

-- A file is created, and what follows is undone with it.
claim_deletes : {next : Unit {0} → Step (Unit {0})} (new : List ℕ) (place : Place) (taken : Why) (step : Step (Unit {0})) (calls : List Call) (cause : ToolCause)
    → ((rest : List Call) → next tt rest (Err cause) → IsUndone new step rest)
    → ((front : List Call) (first : ToolCause) → step front (Err first) → DeletesNew front)
    → Then (Creates new place taken) next calls (Err cause) → DeletesNew calls
claim_deletes new place taken step calls cause undoes h (stops first f e) path k = none_deletes calls (ap (list_any is_created) f.1.0) path k
claim_deletes new place taken step calls cause undoes h (goes_on x front rest is f n) path k =
    let w = undoes rest n in
    let all : calls ≡ created new (Ok tt) ∷ (w.front ++ removed new w.did ∷ []) = is ∙ ap (λ cs. cs ++ rest) f ∙ ap (λ cs. created new (Ok tt) ∷ cs) w.calls_are in
    by_place w all (subst (Has (created path (Ok tt))) all k)
  where
    by_place : (w : IsUndone new step rest) → calls ≡ created new (Ok tt) ∷ (w.front ++ removed new w.did ∷ [])
        → Has (created path (Ok tt)) (created new (Ok tt) ∷ (w.front ++ removed new w.did ∷ [])) → (did : Bool) × Has (removed path did) calls
    by_place w all (inl same) = (
      w.did,
      subst (Has (removed path w.did)) (sym all)
          (inr (has_right (removed path w.did) w.front (removed new w.did ∷ []) (inl (let e : new ≡ path = cc same in ap (λ p. removed p w.did) e)))),
    )
    by_place w all (inr later) = by_part (has_split (created path (Ok tt)) w.front (removed new w.did ∷ []) later)
      where
        by_part : Has (created path (Ok tt)) w.front ⊎ Has (created path (Ok tt)) (removed new w.did ∷ []) → (did : Bool) × Has (removed path did) calls
        by_part (inl inside) = let d = h w.front w.first w.takes path inside in
            (d.0, subst (Has (removed path d.0)) (sym all) (inr (has_left (removed path d.0) w.front (removed new w.did ∷ []) d.1)))
        by_part (inr last) = absurd (none_has (removed new w.did ∷ []) path refl last)

ends_undone : (path target : List ℕ) (place : Place) (step : Step (Unit {0})) (cs : List Call) (cause : ToolCause) → cause ≢ At Target why.FolderNotOnDisk
    → Then (Undoes path place step) (λ done. EndsAt target) cs (Err cause) → IsUndone path step cs
ends_undone path target place step cs cause not (stops first u e) = was_undone path place step cs first u
ends_undone path target place step cs cause not (goes_on x front rest is f n) = absurd (not n.1)

edits_delete : (set : List ℕ) (edit : Editing) (cs : List Call) (cause : ToolCause) → cause ≢ At Target why.FolderNotOnDisk
    → Edits set edit cs (Err cause) → DeletesNew cs
edits_delete set edit cs cause not e =
    then_deletes e (opens_without is_created creations_are_none set) (λ done cs k.
    then_deletes k (λ cs r. computes_without is_created creations_are_none (Ok (beside set)) cs r) (λ path cs m.
    claim_deletes path Beside why.Claimed (Rewrites path set edit) cs cause (λ rest. ends_undone path set Beside (Rewrites path set edit) rest cause not)
    (λ front first w. none_deletes front (rewrites_without is_created creations_are_none path set edit front first w)) m))

claimed_deletes : (path target text : List ℕ) (cs : List Call) (cause : ToolCause) → PutsClaimed path target text cs (Err cause) → DeletesNew cs
claimed_deletes path target text cs cause p =
    claim_deletes path Beside why.Claimed (Fills path target text) cs cause (λ rest. was_undone path Beside (Fills path target text) rest cause)
    (λ front first w. none_deletes front (fills_without is_created creations_are_none path target text front first w)) p

pub refusals_delete_what_is_new : RefusalsDeleteWhatIsNew
refusals_delete_what_is_new (joins None files) cs cause path j not =
    then_deletes j (joined_without is_created creations_are_none files)
    (λ text cs k. none_deletes cs (call_without is_created creations_are_none (written_out text) Output (creations_are_none.prints text) cs (Err cause) k)) path
refusals_delete_what_is_new (joins (Some new) files) cs cause path j not =
    then_deletes j (joined_without is_created creations_are_none files) (λ text cs k.
    then_deletes k (λ cs r. computes_without is_created creations_are_none (Ok (beside new)) cs r) (λ other cs m.
    claim_deletes new Target why.Exists (PutsClaimed other new text) cs cause (λ rest. ends_undone new new Target (PutsClaimed other new text) rest cause not)
    (claimed_deletes other new text) m)) path
refusals_delete_what_is_new (adds set files) cs cause path e not = edits_delete set (adding files) cs cause not e path
refusals_delete_what_is_new (removes set names) cs cause path e not = edits_delete set (removing names) cs cause not e path
