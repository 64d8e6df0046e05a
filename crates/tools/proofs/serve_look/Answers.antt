use Rattle.std.proofs.Common.{map, string_bytes}
use Rattle.tools.proofs.AsAsked.{looked, looks_refused, reported}
use Rattle.tools.proofs.serve_look.Goals as goal

pub returns-in-Ok : goal.returns-in-Ok
returns-in-Ok g c = looked g.D.FindFiles.finds (map string_bytes c.args.words.now) _ c.look-outcome.result c.in-Ok.ensures c.look-outcome.ensures
    (reported c.no_words.ensures c.report_tool.ensures.status c.report_tool.ensures.quiet c.report_tool.ensures.line)

pub returns-in-Err : goal.returns-in-Err
returns-in-Err g c = looks_refused g.D.PutFiles.made g.D.FindFiles.finds (map string_bytes c.args.words.now) c.args.disk.now _ c.in-Err.ensures
    (reported c.no_words-in-Err.ensures c.report_tool-in-Err.ensures.status c.report_tool-in-Err.ensures.quiet c.report_tool-in-Err.ensures.line)
