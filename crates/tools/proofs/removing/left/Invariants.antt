use Rattle.std.proofs.Common.{◌≡◌, map, drop, string_bytes}
use Rattle.serde_json.specs.View.{items_view}
use Rattle.tools.specs.Sets.{joined_items, left}
use Rattle.tools.proofs.removing.left.Given as goal

-- the objects that were kept, and those that will be, are those that are left
abbrev pub invariant-loop-i : goal.invariant-loop-i
invariant-loop-i l = joined_items (items_view l.kept.items) (left (map string_bytes l.names) (drop l.i l.prints) (items_view (drop l.i l.objects)))
    ≡ left (map string_bytes l.names) l.prints (items_view l.objects)
