use Rattle.std.proofs.Common.{◌≡◌, drop}
use Rattle.serde_json.specs.View.{items_view}
use Rattle.keys.specs.KeySets.{are_objects}
use Rattle.keys.proofs.set.are_objects.Given as goal

-- the values that are left are objects exactly if all values are
abbrev pub invariant-loop-value : goal.invariant-loop-value
invariant-loop-value l = are_objects (items_view (drop l.value-index l.values)) ≡ are_objects (items_view l.values)
