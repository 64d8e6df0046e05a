use Rattle.serde_json.specs.View.{view}
use Rattle.tools.specs.declared.tool_cause.Place.TheVariants.{Target}
use Rattle.tools.proofs.Objects.{no_float_in}
use Rattle.tools.proofs.looked_keys.add_key_lines.Goals as goal

pub add_object_lines-requires-clause-no_float : goal.add_object_lines-requires-clause-no_float
add_object_lines-requires-clause-no_float c = no_float_in c.members_keep_floats_out.ensures Target (view c.args.value.now) _ c.requires.no_float c.in-Ok.ensures
