use Rattle.std.proofs.Common.{arith}
use Rattle.octets.proofs.Differences.{block_is}
use Rattle.octets.proofs.lanes.block_difference.Goals as goal

pub returns : goal.returns
returns c = block_is c.args.a.now c.args.b.now (omega arith)
