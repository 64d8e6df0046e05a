-- The steps of a definition that succeeds, and the tests that it passes.
use Rattle.std.proofs.Common.{◌≡◌, IfErr, Bool, true, false, Option, Some, None, Result, Ok, Err, refl, ap}
use Rattle.std.specs.Option.{ok_or}
use Rattle.octets.specs.declared.refusal.Refusal.{Refusal}
use Rattle.octets.specs.declared.refusal.Refusal.TheVariants.{Memory}
use Rattle.octets.specs.Outcomes.{◌>>=◌, needs, is_external}
use Rattle.octets.specs.Code.Results.{is_memory}

-- If a chain of steps succeeds, its first step succeeds and so do the others.
pub steps : {A B : Type 0} (r : Result A Refusal) (f : A → Result B Refusal) (y : B) → (r >>= f) ≡ Ok y → (x : A) × (r ≡ Ok x) × (f x ≡ Ok y)
steps (Ok x) f y h = (x, refl, h)
steps (Err e) f y h = cc h

-- If a test is passed, it holds.
pub passed : (test : Bool) (refusal : Refusal) (u : Unit {0}) → needs test refusal ≡ Ok u → test ≡ true
passed true e u h = refl
passed false e u h = cc h

-- A result holds only one answer.
pub same_answer : {A : Type 0} (x y : A) → (let r : Result A Refusal = Ok x in r) ≡ Ok y → x ≡ y
same_answer x y h = cc h

-- A value that is required is there.
pub is_there : {A : Type 0} (o : Option A) (refusal : Refusal) (x : A) → ok_or o refusal ≡ Ok x → o ≡ Some x
is_there None e x h = cc h
is_there (Some y) e x h = ap Some (same_answer y x h)

-- If a test refuses one call, it refuses every call with the same test.
pub refused_alike : {X Y : Type 0} (fits : Bool) (refusal e : Refusal) (x : X) (y : Y) → (needs fits refusal >>= λ _. Ok x) ≡ Err e
    → (e ≡ refusal) × ((needs fits refusal >>= λ _. Ok y) ≡ Err refusal)
refused_alike true refusal e x y h = cc h
refused_alike false refusal e x y h = (cc h, refl)

-- A refusal that no device and no allocation caused is not Memory.
pub not_memory : (refusal : Refusal) → is_external refusal ≡ false → is_memory refusal ≡ false
not_memory Memory h = cc h
not_memory refusal h = refl

-- What holds of a refusal gives what follows from it.
pub if_weaker : {X : Type 0} (r : Result X Refusal) (P Q : Refusal → Type 0) → IfErr r P → ((e : Refusal) → P e → Q e) → IfErr r Q
if_weaker (Ok x) P Q p more = tt
if_weaker (Err e) P Q p more = more e p
