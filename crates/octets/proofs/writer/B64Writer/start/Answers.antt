use Rattle.octets.proofs.Groups.{part_group-nil}
use Rattle.std.proofs.Common.{sym}
use Rattle.octets.proofs.writer.B64Writer.start.Goals as goal

pub returns : goal.returns
returns c = sym part_group-nil
