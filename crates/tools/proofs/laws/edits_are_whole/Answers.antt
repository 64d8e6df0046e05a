use Rattle.tools.proofs.ChangeLaws.{adds_are_whole, removals_are_whole}
use Rattle.tools.proofs.laws.edits_are_whole.Goals as goal

pub returns-clause-adds : goal.returns-clause-adds
returns-clause-adds c = adds_are_whole

pub returns-clause-removals : goal.returns-clause-removals
returns-clause-removals c = removals_are_whole
