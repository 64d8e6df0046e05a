use Rattle.std.proofs.Common.{◌≡◌, ◌++◌, drop}
use Rattle.serde_json.specs.View.{items_view}
use Rattle.tools.specs.LookedObjects.{each_header_line}
use Rattle.tools.specs.Printing.{printed}
use Rattle.tools.proofs.object_lines.add_each_header_line.Given as goal

abbrev pub invariant-loop-item : goal.invariant-loop-item
invariant-loop-item l = l.out.items ++ printed (each_header_line (items_view (drop l.item-index l.item-items)))
    ≡ l.initial.out.items ++ printed (each_header_line (items_view l.item-items))
