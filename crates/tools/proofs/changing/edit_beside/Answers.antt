use Rattle.tools.proofs.Doing.{returned, undone, went_on}
use Rattle.tools.proofs.changing.edit_beside.Goals as goal

pub returns-in_err-new : goal.returns-in_err-new
returns-in_err-new g c = returned _ c.in_err-new.ensures.takes c.from_residual.ensures.1

pub returns-in_err-delete_after : goal.returns-in_err-delete_after
returns-in_err-delete_after g c = went_on _ c.in_ok-new.ensures.takes
    (returned _ (undone c.rewrite-outcome.ensures c.in_err-delete_after.ensures) c.from_residual-in_err-delete_after.ensures.1)

pub returns : goal.returns
returns g c = went_on _ c.in_ok-new.ensures.takes (went_on _ (undone c.rewrite-outcome.ensures c.in_ok-delete_after.ensures) c.end_at.ensures)
