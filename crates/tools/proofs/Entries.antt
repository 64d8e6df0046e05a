-- Tests of the elements of a list, seen by a view.
use Rattle.std.proofs.Common.{◌≡◌, ◌||◌, Bool, true, false, List, [], ◌∷◌, map, Option, Some, None, option_map, find, if◌then◌else◌, refl, ap}
use Rattle.std.specs.List.{list_any}

pub any-map : {X Y : Type 0} (test : X → Bool) (view : Y → X) (ys : List Y) → list_any test (map view ys) ≡ list_any (λ y. test (view y)) ys
any-map test view [] = refl
any-map test view (y ∷ ys) = ap (λ rest. test (view y) || rest) (any-map test view ys)

pub find-map : {X Y : Type 0} (p : Y → Bool) (f : X → Y) (xs : List X) → find p (map f xs) ≡ option_map f (find (λ x. p (f x)) xs)
find-map p f [] = refl
find-map p f (x ∷ xs) = elim (p (f x)) as (λ b. (if b then Some (f x) else find p (map f xs)) ≡ option_map f (if b then Some x else find (λ y. p (f y)) xs))
    [ true ↦ refl | false ↦ find-map p f xs ]

pub ruleset views = (any-map, find-map)

pub option_map-option_map : {X Y Z : Type 0} (f : X → Y) (g : Y → Z) (o : Option X) → option_map (λ x. g (f x)) o ≡ option_map g (option_map f o)
option_map-option_map f g None = refl
option_map-option_map f g (Some x) = refl
