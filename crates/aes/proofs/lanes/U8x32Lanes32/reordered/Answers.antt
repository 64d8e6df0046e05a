use Rattle.std.proofs.Common.{refl, arith}
use Rattle.aes.proofs.Places.{below_16, order_ok, reordered}
use Rattle.aes.proofs.lanes.U8x32Lanes32.reordered.Goals as goal

pub swizzle : goal.swizzle
swizzle c = order_ok 2 32 c.args.places c.twice.result refl (omega arith) (below_16 c.args.places c.requires) c.twice.ensures

pub returns : goal.returns
returns c i h = reordered 2 c.args.x c.args.places c.twice.result (omega arith) (below_16 c.args.places c.requires) c.twice.ensures (omega arith) i (omega (arith, h))
