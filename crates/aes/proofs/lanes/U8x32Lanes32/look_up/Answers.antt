use Rattle.std.proofs.Common.{refl}
use Rattle.aes.proofs.Places.{places_ok, swizzled}
use Rattle.aes.proofs.lanes.U8x32Lanes32.look_up.Goals as goal

pub swizzle : goal.swizzle
swizzle c = places_ok 2 32 c.args.places refl c.fits-places.0 c.requires

pub returns : goal.returns
returns c = swizzled 2 c.args.table c.twice.result c.args.places c.twice.ensures c.fits-places.0 c.requires
