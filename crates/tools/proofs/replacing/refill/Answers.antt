use Rattle.tools.proofs.Doing.{returned, went_on}
use Rattle.tools.proofs.replacing.refill.Goals as goal

pub returns-in_err-write : goal.returns-in_err-write
returns-in_err-write g c = returned _ c.in_err-write.ensures.takes c.from_residual.ensures.1

pub returns-in_err-own : goal.returns-in_err-own
returns-in_err-own g c = went_on _ c.in_ok-write.ensures.takes (returned _ c.in_err-own.ensures c.from_residual-in_err-own.ensures.1)

pub returns : goal.returns
returns g c = went_on _ c.in_ok-write.ensures.takes (went_on _ c.in_ok-own.ensures c.place.ensures)
