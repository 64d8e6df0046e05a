use Rattle.tools.proofs.ReportLaws.{lines_are_printed, texts_are_printed}
use Rattle.tools.proofs.line_laws.texts_are_printed.Goals as goal

pub returns-clause-texts : goal.returns-clause-texts
returns-clause-texts c = texts_are_printed

pub returns-clause-lines : goal.returns-clause-lines
returns-clause-lines c = lines_are_printed
