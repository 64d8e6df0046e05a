use Rattle.tools.proofs.Doing.{returned, undone, went_on}
use Rattle.tools.proofs.changing.put_claimed.Goals as goal

pub returns-in_err-new : goal.returns-in_err-new
returns-in_err-new g c = returned _ c.in_err-new.ensures.takes c.from_residual.ensures.1

pub returns : goal.returns
returns g c = went_on _ c.in_ok-new.ensures.takes (undone c.fill-outcome.ensures c.delete_after.ensures)
