use Rattle.std.proofs.Common.{◌≡◌, drop}
use Rattle.serde_json.specs.View.{items_view}
use Rattle.tools.specs.Sets.{are_shallow}
use Rattle.tools.proofs.holding.are_shallow.Given as goal

-- the objects that are left are shallow exactly if all are
abbrev pub invariant-loop-object : goal.invariant-loop-object
invariant-loop-object l = are_shallow (items_view (drop l.object-index l.objects)) ≡ are_shallow (items_view l.objects)
