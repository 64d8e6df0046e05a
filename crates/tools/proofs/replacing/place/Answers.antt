use Rattle.tools.proofs.Doing.{returned, went_on}
use Rattle.tools.proofs.replacing.place.Goals as goal

pub returns-in_err-file : goal.returns-in_err-file
returns-in_err-file g c = returned _ c.in_err-file.ensures.takes c.from_residual.ensures.1

pub returns : goal.returns
returns g c = went_on _ c.in_ok-file.ensures.takes c.put.ensures
