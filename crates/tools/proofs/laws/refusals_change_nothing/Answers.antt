use Rattle.tools.proofs.ChangeLaws.{refusals_delete_what_is_new, refusals_replace_nothing}
use Rattle.tools.proofs.laws.refusals_change_nothing.Goals as goal

pub returns-clause-replaced : goal.returns-clause-replaced
returns-clause-replaced c = refusals_replace_nothing

pub returns-clause-deleted : goal.returns-clause-deleted
returns-clause-deleted c = refusals_delete_what_is_new
