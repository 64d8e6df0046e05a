use Rattle.std.proofs.Common.{refl, arith}
use Rattle.aes.proofs.Places.{below_16, order_ok, reordered, whole_block}
use Rattle.aes.proofs.lanes.U8x16Lanes16.reordered.Goals as goal

pub swizzle : goal.swizzle
swizzle c = order_ok 1 16 c.args.places c.args.places refl (omega arith) (below_16 c.args.places c.requires) (whole_block c.args.places (omega arith))

pub returns : goal.returns
returns c i h = reordered 1 c.args.x c.args.places c.args.places (omega arith) (below_16 c.args.places c.requires) (whole_block c.args.places (omega arith)) (omega arith) i (omega (arith, h))
