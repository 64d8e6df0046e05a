use Rattle.std.proofs.Common.{refl, true, false}
use Rattle.tools.proofs.Doing.{takes_call}
use Rattle.tools.proofs.replacing.delete_after.Goals as goal

pub returns-in-Ok-remove : goal.returns-in-Ok-remove
returns-in-Ok-remove g c = rw c.in-Err.is (takes_call _ c.in-Ok-remove.ensures (true, (refl, refl)))

pub returns-in-Err-remove : goal.returns-in-Err-remove
returns-in-Err-remove g c = rw c.in-Err.is (takes_call _ c.in-Err-remove.ensures (false, (refl, refl)))
