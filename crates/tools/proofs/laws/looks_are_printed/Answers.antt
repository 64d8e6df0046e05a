use Rattle.tools.proofs.LookLaws.{looks_are_printed}
use Rattle.tools.proofs.laws.looks_are_printed.Goals as goal

pub returns : goal.returns
returns c = looks_are_printed
