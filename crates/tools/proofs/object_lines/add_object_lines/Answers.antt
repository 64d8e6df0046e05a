use Rattle.std.proofs.Common.{◌≡◌, ◌++◌, ◌∷◌, [], OnOk, subst}
use Rattle.serde_json.specs.View.{view}
use Rattle.tools.specs.LookedObjects.{count_line, header_lines, object_line}
use Rattle.tools.specs.Printing.{printed}
use Rattle.tools.proofs.Printable.{printed_both, printed_next}
use Rattle.tools.proofs.object_lines.add_object_lines.Goals as goal

pub returns : goal.returns
returns c =
    let value = view c.args.value.now in
    let headers = printed_both c.args.out.now.items c.add_object_line.new.out.items c.add_header_lines.new.out.items (object_line value ∷ []) (header_lines value)
    c.in_ok-add_object_line.ensures c.in_ok-add_header_lines.ensures in
    printed_next c.add_count_line.result c.args.out.now.items c.add_header_lines.new.out.items c.add_count_line.new.out.items
    (object_line value ∷ header_lines value) (count_line c.args.list.now _ ∷ []) headers
    (subst (λ n. OnOk c.add_count_line.result (c.add_count_line.new.out.items ≡ c.add_header_lines.new.out.items ++ printed (count_line c.args.list.now n ∷ [])))
    c.count_or_one.ensures c.add_count_line.ensures)
