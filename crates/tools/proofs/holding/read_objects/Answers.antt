use Rattle.std.proofs.Common.{ap, ◌∙◌}
use Rattle.serde_json.specs.Written.{items_have_float}
use Rattle.serde_json.specs.View.{view}
use Rattle.tools.proofs.Objects.{no_float_in}
use Rattle.tools.proofs.holding.read_objects.Goals as goal

pub returns-clause-no_float : goal.returns-clause-no_float
returns-clause-no_float c = ap items_have_float c.in_ok-copies.ensures
    ∙ no_float_in c.members_keep_floats_out.ensures c.args.place (view c.args.value.now) _ c.requires c.in_ok-objects.ensures
