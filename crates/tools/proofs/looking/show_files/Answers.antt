use Rattle.tools.proofs.Doing.{answered, returned, went_on}
use Rattle.tools.proofs.looking.show_files.Goals as goal

pub returns-in_err-all : goal.returns-in_err-all
returns-in_err-all g c = returned _ c.in_err-all.ensures c.from_residual.ensures.1

pub returns-in_err-write_out : goal.returns-in_err-write_out
returns-in_err-write_out g c = went_on _ c.in_ok-all.ensures (returned _ c.in_err-write_out.ensures c.from_residual-in_err-write_out.ensures.1)

pub returns : goal.returns
returns g c = went_on _ c.in_ok-all.ensures (went_on _ c.in_ok-write_out.ensures (answered _ _ c.needs.ensures))
