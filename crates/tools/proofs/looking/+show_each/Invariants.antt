use Rattle.std.proofs.Common.{length}
use Rattle.tools.proofs.looking.+show_each.Given as goal

abbrev pub decreases-show_each : goal.decreases-show_each
decreases-show_each g l = length l.files.now
