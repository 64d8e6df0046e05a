use Rattle.std.proofs.Common.{arith}
use Rattle.prf.proofs.Blocks.{xor_each-more}
use Rattle.prf.proofs.hmac.xor_with.Goals as goal

pub loop-i-preserved : goal.loop-i-preserved
loop-i-preserved c = xor_each-more c.loop-i.block c.args.block.now c.args.pad c.loop-i.i (omega arith) c.loop-i.invariant
