use Rattle.std.proofs.Common.{◌≡◌, ◌≤◌, drop, length}
use Rattle.serde_json.specs.View.{items_view}
use Rattle.keys.specs.Limits.{limits}
use Rattle.keys.specs.KeySets.{octet_keys}
use Rattle.keys.proofs.KeyLists.{keys_with}
use Rattle.keys.proofs.set.read_keys.Given as goal

-- the keys so far and those of the objects that are left are all keys
abbrev pub invariant-loop-value : goal.invariant-loop-value
invariant-loop-value l = (length l.keys.items ≤ l.value-index)
    × (octet_keys limits l.strict (items_view l.objects) ≡ keys_with l.strict l.keys.items (drop l.value-index l.objects))
