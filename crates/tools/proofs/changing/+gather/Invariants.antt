use Rattle.std.proofs.Common.{length}
use Rattle.tools.proofs.changing.+gather.Given as goal

abbrev pub decreases-gather : goal.decreases-gather
decreases-gather g l = length l.files.now
