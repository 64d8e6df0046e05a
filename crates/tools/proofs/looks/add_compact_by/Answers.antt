use Rattle.std.proofs.Common.{◌≡◌, ◌∙◌, ◌++◌, OnOk, ap, subst}
use Rattle.tools.specs.LookedObjects.{cost_lines}
use Rattle.tools.specs.Looks.{refusal_by, titled_lines}
use Rattle.tools.specs.ObjectPlaces.{part_places}
use Rattle.tools.specs.Places.{where_lines}
use Rattle.tools.specs.Printing.{printed}
use Rattle.tools.proofs.Printable.{printed_both, printed_next}
use Rattle.tools.proofs.looks.add_compact_by.Goals as goal

pub returns : goal.returns
returns c =
    let kind = c.args.kind in
    let out = c.args.out.now.items in
    let mid = c.add_cost_lines.new.out.items in
    let titled = titled_lines c.args.name.now kind in
    let cost = cost_lines kind c.args.text.now in
    let places = part_places kind c.args.part.now in
    printed_next c.add_part_place.result out mid c.add_part_place.new.out.items
    (titled (refusal_by kind c.args.text.now) c.args.part.now ++ cost) (where_lines (refusal_by kind c.args.text.now) places)
    (printed_both out c.add_titled_lines.new.out.items mid (titled (refusal_by kind c.args.text.now) c.args.part.now) cost
    (c.in_ok-add_titled_lines.ensures ∙ ap (λ refusal. out ++ printed (titled refusal c.args.part.now)) c.in_ok-refusal.ensures)
    c.in_ok-add_cost_lines.ensures)
    (subst (λ refusal. OnOk c.add_part_place.result (c.add_part_place.new.out.items ≡ mid ++ printed (where_lines refusal places))) c.in_ok-refusal.ensures
    c.add_part_place.ensures)
