-- Lists whose elements are read from another list or made of it: facts about all elements and about one.
use Rattle.std.proofs.Common.{◌≡◌, List, [], ◌∷◌, ◌++◌, map, Bool, true, Result, Ok, refl, sym, subst}
use Rattle.std.proofs.lemmas.Bool.{and_from, or_left, or_right}
use Rattle.std.specs.List.{AllByRecursion, list_all, list_any}
use Rattle.octets.specs.declared.refusal.Refusal.{Refusal}
use Rattle.octets.specs.Outcomes.{◌>>=◌}
use Rattle.objects.specs.Texts.{each}
use Rattle.octets.proofs.Lemmas.{steps, same_answer}

-- ---- lists that are read from others

-- A fact about each element that is read holds of all of them.
pub each_gives : {X Y : Type 0} {Q : Y → Type 0} (read : X → Result Y Refusal) → ((x : X) (y : Y) → read x ≡ Ok y → Q y)
    → (xs : List X) (ys : List Y) → each read xs ≡ Ok ys
    → AllByRecursion Q ys
each_gives {Q = Q} read holds [] ys h = subst (AllByRecursion Q) (same_answer [] ys h) tt
each_gives {Q = Q} read holds (x ∷ xs) ys h =
    let a = steps (read x) (λ y. each read xs >>= λ others. Ok (y ∷ others)) ys h in
    let b = steps (each read xs) (λ others. Ok (a.0 ∷ others)) ys a.2 in
    subst (AllByRecursion Q) (same_answer (a.0 ∷ b.0) ys b.2) (holds x a.0 a.1, each_gives read holds xs b.0 b.1)

-- If the element that is read from another passes a test, some element of the whole list passes it.
pub some_passes : {X Y Z : Type 0} {P : Y → Type 0} (read : X → Result Y Refusal) (made : Y → Z) (test : Z → Bool) (x : X)
    → ((y : Y) → read x ≡ Ok y → P y → test (made y) ≡ true)
    → (before after : List X) (ys : List Y) → each read (before ++ x ∷ after) ≡ Ok ys → AllByRecursion P ys → list_any test (map made ys) ≡ true
some_passes {P = P} read made test x passes [] after ys h all =
    let a = steps (read x) (λ y. each read after >>= λ others. Ok (y ∷ others)) ys h in
    let b = steps (each read after) (λ others. Ok (a.0 ∷ others)) ys a.2 in
    let is : a.0 ∷ b.0 ≡ ys = same_answer (a.0 ∷ b.0) ys b.2 in
    let here : AllByRecursion P (a.0 ∷ b.0) = subst (AllByRecursion P) (sym is) all in
    subst (λ ys. list_any test (map made ys) ≡ true) is (or_left (test (made a.0)) (list_any test (map made b.0)) (passes a.0 a.1 here.0))
some_passes {P = P} read made test x passes (w ∷ before) after ys h all =
    let a = steps (read w) (λ y. each read (before ++ x ∷ after) >>= λ others. Ok (y ∷ others)) ys h in
    let b = steps (each read (before ++ x ∷ after)) (λ others. Ok (a.0 ∷ others)) ys a.2 in
    let is : a.0 ∷ b.0 ≡ ys = same_answer (a.0 ∷ b.0) ys b.2 in
    let here : AllByRecursion P (a.0 ∷ b.0) = subst (AllByRecursion P) (sym is) all in
    subst (λ ys. list_any test (map made ys) ≡ true) is
    (or_right (test (made a.0)) (list_any test (map made b.0)) (some_passes {P = P} read made test x passes before after b.0 b.1 here.1))

-- ---- lists that are made from others

-- If each element is read as the element that was made, so is the list.
pub each_made : {X Y Z : Type 0} {P : X → Type 0} (read : Y → Result Z Refusal) (given : X → Y) (made : X → Z) → ((x : X) → P x → read (given x) ≡ Ok (made x))
    → (xs : List X) → AllByRecursion P xs → each read (map given xs) ≡ Ok (map made xs)
each_made read given made is [] all = refl
each_made read given made is (x ∷ xs) all = rw (is x all.0, each_made read given made is xs all.1) refl

-- If each element that is made passes a test, all of them pass it.
pub all_pass : {X Y : Type 0} {P : X → Type 0} (test : Y → Bool) (made : X → Y) → ((x : X) → P x → test (made x) ≡ true) → (xs : List X) → AllByRecursion P xs
    → list_all test (map made xs) ≡ true
all_pass test made passes [] all = refl
all_pass test made passes (x ∷ xs) all = and_from (test (made x)) (list_all test (map made xs)) (passes x all.0) (all_pass test made passes xs all.1)
