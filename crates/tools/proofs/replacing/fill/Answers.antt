use Rattle.tools.proofs.Doing.{returned, went_on}
use Rattle.tools.proofs.replacing.fill.Goals as goal

pub returns-in_err-write : goal.returns-in_err-write
returns-in_err-write g c = returned _ c.in_err-write.ensures.takes c.from_residual.ensures.1

pub returns : goal.returns
returns g c = went_on _ c.in_ok-write.ensures.takes c.place.ensures
