-- Elements that are found in a list.
use Rattle.std.proofs.Common.{◌≡◌, Bool, true, false, if◌then◌else◌, List, [], ◌∷◌, map, Option, Some, None, option_map, Bor, refl, ap, ◌∙◌, sym}
use Rattle.std.proofs.lemmas.Bool.{and_parts}
use Rattle.std.specs.List.{find, list_all}

pub find-map : {X Y : Type 0} (p : Y → Bool) (f : X → Y) (xs : List X) → find p (map f xs) ≡ option_map f (find (λ x. p (f x)) xs)
find-map p f [] = refl
find-map p f (x ∷ xs) = elim (p (f x)) as (λ b. (if b then Some (f x) else find p (map f xs)) ≡ option_map f (if b then Some x else find (λ y. p (f y)) xs))
    [ true ↦ refl | false ↦ find-map p f xs ]

pub option_map-option_map : {X Y Z : Type 0} (f : X → Y) (g : Y → Z) (o : Option X) → option_map (λ x. g (f x)) o ≡ option_map g (option_map f o)
option_map-option_map f g None = refl
option_map-option_map f g (Some x) = refl

-- The name of the element that is found in a list is found in the list of the names.
pub found_mapped : {X Y : Type 0} (p : Y → Bool) (f : X → Y) (xs : List X) (names : List Y) (found : Option (Bor X)) → map f xs ≡ names
    → option_map (λ x. x.now) found ≡ find (λ x. p (f x)) xs → option_map (λ x. f x.now) found ≡ find p names
found_mapped {X} p f xs names found named here =
    option_map-option_map (λ (x : Bor X). x.now) f found ∙ ap (option_map f) here ∙ sym (find-map p f xs) ∙ ap (find p) named

-- An element that is found passes a test that all elements pass.
pub found_has : {X : Type 0} (p q : X → Bool) (xs : List X) (x : X) → list_all q xs ≡ true → find p xs ≡ Some x → q x ≡ true
found_has p q [] x all found = cc
found_has p q (y ∷ ys) x all found =
    let step : (b : Bool) → (if b then Some y else find p ys) ≡ Some x → q x ≡ true =
    λ b. elim b as (λ v. (if v then Some y else find p ys) ≡ Some x → q x ≡ true) [
      | true ↦ λ here. let same : y ≡ x = cc in ap q (sym same) ∙ (and_parts (q y) (list_all q ys) all).0
      | false ↦ λ later. found_has p q ys x (and_parts (q y) (list_all q ys) all).1 later
    ] in
    step (p y) found
