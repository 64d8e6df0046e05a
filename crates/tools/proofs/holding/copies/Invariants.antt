use Rattle.std.proofs.Common.{◌≡◌, map, take}
use Rattle.serde_json.specs.View.{view}
use Rattle.tools.proofs.holding.copies.Given as goal

-- the copies so far are those of the objects so far
abbrev pub invariant-loop-object : goal.invariant-loop-object
invariant-loop-object l = map view l.copies.items ≡ map view (take l.object-index l.objects)
