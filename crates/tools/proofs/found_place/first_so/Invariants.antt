use Rattle.std.proofs.Common.{◌≡◌, map, drop}
use Rattle.tools.specs.Places.{first_so}
use Rattle.tools.proofs.found_place.first_so.Given as goal

-- the first of the places that are left is the first of all
abbrev pub invariant-loop-place : goal.invariant-loop-place
invariant-loop-place l = first_so l.so (map (λ place. (place.0.now, place.1)) (drop l.place-index l.places))
    ≡ first_so l.so (map (λ place. (place.0.now, place.1)) l.places)
