-- Tests of the elements of a list, seen by a view.
use Rattle.std.proofs.Common.{◌≡◌, Bool, List, [], ◌∷◌, map, refl, ap}
use Rattle.std.proofs.lemmas.List.Folds.{list_all-map}
use Rattle.std.specs.List.{list_any}
use Rattle.std.specs.Prelude.{◌||◌}

pub list_any-map : {X : Type 0} (test : X → Bool) {Y : Type 0} (view : Y → X) (ys : List Y) → list_any test (map view ys) ≡ list_any (λ y. test (view y)) ys
list_any-map test view [] = refl
list_any-map test view (y ∷ ys) = ap (λ rest. test (view y) || rest) (list_any-map test view ys)

-- tests of mapped lists
pub ruleset views = (list_any-map, list_all-map)
