-- Steps one after another.
use Rattle.std.specs.Result.{IsErrAnd}
use Rattle.std.proofs.Common.{◌≡◌, ◌∙◌, ◌<◌, ◌-◌, ℕ, suc, String, Global, string_bytes, List, [], ◌∷◌, ◌++◌, length, map, take, drop, get_or, Result, Ok, Err, refl, ap, sym, subst, append_assoc, arith}
use Rattle.std.proofs.lemmas.List.{append-nil, take_all}
use Rattle.tools.specs.declared.tool_cause.ToolCause.{ToolCause}
use Rattle.tools.specs.declared.tool_cause.Place.{Place}
use Rattle.tools.specs.Calls.{Call, Makes}
use Rattle.tools.specs.Steps.{Step, Computes, GivesUnlessMemory, Then, stops, goes_on, Takes}
use Rattle.tools.specs.SetViews.{seen}
use Rattle.tools.specs.Changes.{Deletes, Undoes}

-- one call
pub takes_call : {D A : Type 0} {made : D → List Call → Type 0} {old new : D} {step : Step A} {result : Result A ToolCause} (call : Call)
    → Makes made old new call → step (call ∷ []) result → Takes made old new step result
takes_call call makes meets = record { calls = call ∷ []; follow = makes; meets = meets }

-- the first step has a cause
pub stopped : {D A B : Type 0} {made : D → List Call → Type 0} {old new : D} {first : Step A} {next : A → Step B} {cause : ToolCause}
    → Takes made old new first (Err cause) → Takes made old new (Then first next) (Err cause)
stopped {cause} t = record { calls = t.calls; follow = t.follow; meets = stops cause t.meets refl }

pub went_on : {D A B : Type 0} {made : D → List Call → Type 0} {old mid new : D} {first : Step A} {next : A → Step B} {result : Result B ToolCause} (x : A)
    → Takes made old mid first (Ok x) → Takes made mid new (next x) result → Takes made old new (Then first next) result
went_on {made} {new} x t u = record {
  calls = t.calls ++ u.calls;
  follow = λ before m. subst (made new) (append_assoc before t.calls u.calls) (u.follow (before ++ t.calls) (t.follow before m));
  meets = goes_on x t.calls u.calls refl t.meets u.meets;
}

-- a step, and what is deleted after its refusal
pub undone : {D : Type 0} {made : D → List Call → Type 0} {old mid new : D} {path : List ℕ} {place : Place} {step : Step (Unit {0})}
    {outcome result : Result (Unit {0}) ToolCause}
    → Takes made old mid step outcome → Takes made mid new (Deletes path place outcome) result → Takes made old new (Undoes path place step) result
undone {made} {new} {outcome} t u = record {
  calls = t.calls ++ u.calls;
  follow = λ before m. subst (made new) (append_assoc before t.calls u.calls) (u.follow (before ++ t.calls) (t.follow before m));
  meets = record { outcome = outcome; front = t.calls; rest = u.calls; calls_are = refl; takes = t.meets; deletes = u.meets };
}

-- So it is where `?` returns the cause.
pub returned : {D A B : Type 0} {made : D → List Call → Type 0} {old new : D} {first : Step A} {next : A → Step B} {cause : ToolCause}
    (r : Result B ToolCause) → Takes made old new first (Err cause) → IsErrAnd r (λ e. e ≡ cause) → Takes made old new (Then first next) r
returned (Ok x) t is = absurd is
returned {made} {old} {new} {first} {next} (Err e) t is = subst (λ e. Takes made old new (Then first next) (Err e)) (sym is) (stopped t)

-- a computation calls nothing
pub computed : {D X Y : Type 0} {made : D → List Call → Type 0} {d : D} (view : X → Y) (r : Result X ToolCause) {answer : Result Y ToolCause}
    → GivesUnlessMemory view r answer → Takes made d d (Computes answer) (seen view r)
computed {made} {d} view (Ok x) gives = record { calls = []; follow = λ before m. subst (made d) (sym (append-nil before)) m; meets = record { none = refl; gives = gives } }
computed {made} {d} view (Err cause) gives = record { calls = []; follow = λ before m. subst (made d) (sym (append-nil before)) m; meets = record { none = refl; gives = gives } }

-- a computation that gives the answer itself
pub answered : {D A : Type 0} {made : D → List Call → Type 0} {d : D} (r answer : Result A ToolCause) → r ≡ answer → Takes made d d (Computes answer) r
answered (Ok x) answer is = computed (λ y. y) (Ok x) (sym is)
answered (Err cause) answer is = computed (λ y. y) (Err cause) (λ memory. sym is)

-- So it does by the octets behind a reference.
pub judged_by : {D X Y : Type 0} {made : D → List Call → Type 0} {d : D} (view : X → Y) (r : Result X ToolCause) (judge : List ℕ → Result Y ToolCause)
    (text octets : List ℕ) → octets ≡ text → GivesUnlessMemory view r (judge octets) → Takes made d d (Computes (judge text)) (seen view r)
judged_by {made} {d} view r judge text octets same gives = computed view r (subst (λ xs. GivesUnlessMemory view r (judge xs)) same gives)

-- the first step of a value has a cause
pub returned_seen : {D A X Y : Type 0} {made : D → List Call → Type 0} {old new : D} {first : Step A} {next : A → Step Y} {cause : ToolCause}
    (view : X → Y) (r : Result X ToolCause) → Takes made old new first (Err cause) → IsErrAnd r (λ e. e ≡ cause)
    → Takes made old new (Then first next) (seen view r)
returned_seen view (Ok x) t is = absurd is
returned_seen {made} {old} {new} {first} {next} view (Err e) t is = subst (λ e. Takes made old new (Then first next) (Err e)) (sym is) (stopped t)

-- The step after a value is that of its octets behind a reference.
pub went_on_at : {D A B : Type 0} {made : D → List Call → Type 0} {old mid new : D} {first : Step A} {next : A → Step B} {result : Result B ToolCause} {x : A}
    (y : A) → y ≡ x → Takes made old mid first (Ok x) → Takes made mid new (next y) result → Takes made old new (Then first next) result
went_on_at {made} {old} {mid} {first} y same t u = went_on y (subst (λ z. Takes made old mid first (Ok z)) (sym same) t) u

-- ---- files one after another

-- the step by an equal value
pub taken_by : {D A B : Type 0} {made : D → List Call → Type 0} {old new : D} (step : B → Step A) {result : Result A ToolCause}
    (value other : B) → value ≡ other → Takes made old new (step other) result → Takes made old new (step value) result
taken_by {made} {old} {new} step {result} value other same t = subst (λ x. Takes made old new (step x) result) (sym same) t

pub names_are : (files : List (String Global)) (file : String Global) (name : List ℕ) → 0 < length files → file ≡ get_or files 0 file
    → name ≡ string_bytes file → map string_bytes files ≡ name ∷ map string_bytes (take (length files - 1) (drop 1 files))
names_are [] file name some here named = absurd (omega arith)
names_are (first ∷ files) file name some here named =
    ap (λ x. x ∷ map string_bytes files) (sym (named ∙ ap string_bytes here))
    ∙ ap (λ rest. name ∷ map string_bytes rest) (sym (take_all (suc (length files) - 1) files (omega arith)))

pub no_names : (files : List (String Global)) → length files < 1 → map string_bytes files ≡ []
no_names [] none = refl
no_names (file ∷ files) none = absurd (omega arith)
