use Rattle.std.proofs.Common.{refl, arith}
use Rattle.aes.proofs.Places.{places_ok, swizzled, whole_block}
use Rattle.aes.proofs.lanes.U8x16Lanes16.look_up.Goals as goal

pub swizzle : goal.swizzle
swizzle c = places_ok 1 16 c.args.places refl c.fits-places.0 c.requires

pub returns : goal.returns
returns c = swizzled 1 c.args.table c.args.table c.args.places (whole_block c.args.table (omega arith)) c.fits-places.0 c.requires
