-- A loop over a list, seen by the names of its elements.
use Rattle.std.proofs.Common.{◌≡◌, ℕ, ◌+◌, ◌<◌, List, ◌∷◌, map, drop, length, slice_index_or, refl, add-one}
use Rattle.std.proofs.Math.Seq.{drop-cons}
use Rattle.std.proofs.lemmas.List.{drop-map}

-- The names that are left at an index begin with the name of the element there.
pub mapped-at : {X Y : Type 0} (name : X → Y) (xs : List X) (i : ℕ) (d : X) → i < length xs
    → drop i (map name xs) ≡ name (slice_index_or xs i d) ∷ drop (i + 1) (map name xs)
mapped-at name xs i d below = rw (drop-map name i xs, drop-map name (i + 1) xs, add-one, drop-cons xs i d below) refl
