use Rattle.std.proofs.Common.{refl}
use Rattle.tools.proofs.Doing.{takes_call}
use Rattle.tools.proofs.replacing.create.Goals as goal

pub returns-in-Err-clause-takes : goal.returns-in-Err-clause-takes
returns-in-Err-clause-takes g c = takes_call _ c.in-Err.ensures.made (c.in-Err.failure, (refl, c.creation_cause.ensures))
