use Rattle.std.proofs.Common.{◌∙◌, ◌++◌, ◌∷◌, [], position, ap}
use Rattle.objects.specs.Texts.{is_dot}
use Rattle.tools.specs.LookedObjects.{before_dot, count_line, header_line}
use Rattle.tools.specs.Printing.{printed}
use Rattle.tools.proofs.Printable.{printed_next}
use Rattle.tools.proofs.object_lines.add_part_lines.Goals as goal

pub returns : goal.returns
returns c =
    let part = c.args.part.now in
    printed_next c.add_count_line.result c.args.out.now.items c.add_header_line.new.out.items c.add_count_line.new.out.items
    (header_line (before_dot (position is_dot part) part)) (count_line c.args.list.now 1 ∷ [])
    (c.in_ok-add_header_line.ensures ∙ ap (λ text. c.args.out.now.items ++ printed (header_line text)) c.before_dot.ensures) c.add_count_line.ensures
