use Rattle.std.proofs.Common.{refl, ap}
use Rattle.tools.specs.declared.tool_cause.Place.TheVariants.{Target}
use Rattle.tools.specs.declared.tool_cause.ToolCause.TheVariants.{At}
use Rattle.tools.proofs.Doing.{takes_call}
use Rattle.tools.proofs.replacing.open.Goals as goal

pub returns-in-Err-clause-takes : goal.returns-in-Err-clause-takes
returns-in-Err-clause-takes g c = takes_call _ c.in-Err.ensures.made (c.in-Err.failure, (refl, ap (At Target) c.opening_why.ensures))
