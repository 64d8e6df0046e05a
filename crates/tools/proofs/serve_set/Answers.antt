use Rattle.std.proofs.Common.{map, string_bytes}
use Rattle.tools.proofs.AsAsked.{reported, sets_refused}
use Rattle.tools.proofs.serve_set.Goals as goal

pub returns-in-Err : goal.returns-in-Err
returns-in-Err g c = sets_refused g.D.PutFiles.made (map string_bytes c.args.words.now) c.args.disk.now _ c.in-Err.ensures
    (reported c.no_words.ensures c.report_tool-in-Err.ensures.status c.report_tool-in-Err.ensures.quiet c.report_tool-in-Err.ensures.line)
