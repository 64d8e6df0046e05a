use Rattle.serde_json.specs.View.{view}
use Rattle.std.proofs.Common.{◌++◌}
use Rattle.tools.specs.LookedObjects.{cost_lines}
use Rattle.tools.specs.Looks.{value_lines}
use Rattle.tools.specs.ObjectPlaces.{value_places}
use Rattle.tools.specs.Places.{where_lines}
use Rattle.tools.proofs.Printable.{printed_both, printed_next}
use Rattle.tools.proofs.looks.add_later_lines.Goals as goal

pub returns : goal.returns
returns c =
    let kind = c.args.kind in
    let value = view c.args.value.now in
    let out = c.args.out.now.items in
    let mid = c.add_cost_lines.new.out.items in
    let cost = cost_lines kind c.args.text.now in
    printed_next c.add_value_place.result out mid c.add_value_place.new.out.items
    (value_lines kind value ++ cost) (where_lines c.args.refusal (value_places kind value))
    (printed_both out c.add_value_lines.new.out.items mid (value_lines kind value) cost c.in_ok-add_value_lines.ensures c.in_ok-add_cost_lines.ensures)
    c.add_value_place.ensures
