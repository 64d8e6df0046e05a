use Rattle.std.proofs.Common.{◌∙◌, ◌+◌, ◌++◌, drop, ap, sym}
use Rattle.serde_json.specs.View.{view, items_view}
use Rattle.tools.specs.LookedObjects.{each_header_line, own_header_line}
use Rattle.tools.specs.Printing.{printed}
use Rattle.tools.proofs.JoinedKeys.{next_is}
use Rattle.tools.proofs.Printable.{printed_then}
use Rattle.tools.proofs.object_lines.add_each_header_line.Goals as goal

pub loop-item-preserved : goal.loop-item-preserved
loop-item-preserved c =
    let items = c.deref-item-items.result.now in
    let i = c.loop-item.item-index in
    let rest = each_header_line (items_view (drop (i + 1) items)) in
    ap (λ front. front ++ printed rest) c.in_ok-add_own_header_line.ensures
    ∙ printed_then c.loop-item.out.items (own_header_line (view c.item-item.result)) rest
    ∙ ap (λ left. c.loop-item.out.items ++ printed (each_header_line (items_view left))) (sym (next_is items i c.item-item.result c.loop-item-test.true c.item-item.is))
    ∙ c.loop-item.invariant
