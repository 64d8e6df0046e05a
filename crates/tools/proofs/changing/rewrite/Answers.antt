use Rattle.tools.proofs.Doing.{returned, went_on_at}
use Rattle.tools.proofs.changing.rewrite.Goals as goal

pub returns-in_err-text : goal.returns-in_err-text
returns-in_err-text g c = returned _ c.in_err-text.ensures.takes c.from_residual.ensures.1

pub returns : goal.returns
returns g c = went_on_at _ c.as_str.ensures.value c.in_ok-text.ensures.takes c.refill.ensures
