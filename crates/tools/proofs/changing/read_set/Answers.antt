use Rattle.tools.specs.Sets.{set_keys}
use Rattle.tools.specs.SetViews.{joined_view}
use Rattle.tools.proofs.Doing.{judged_by, returned_seen, went_on}
use Rattle.tools.proofs.changing.read_set.Goals as goal

pub returns-in_err-text-clause-takes : goal.returns-in_err-text-clause-takes
returns-in_err-text-clause-takes g c = returned_seen joined_view _ c.in_err-text.ensures.takes c.from_residual.ensures.1

pub returns-clause-takes : goal.returns-clause-takes
returns-clause-takes g c = went_on _ c.in_ok-text.ensures.takes (judged_by joined_view c.set_keys.result set_keys _ c.deref.result.now c.deref.ensures.value c.set_keys.ensures)
