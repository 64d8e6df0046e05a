use Rattle.std.proofs.Common.{bit_xor, arith}
use Rattle.std.proofs.lemmas.Simd.{zip2_of_maps}
use Rattle.aes.specs.Code.LookUps.{with_i_of, low_of, high_of}
use Rattle.aes.proofs.Places.{are_places, looked, low_in, high_in}
use Rattle.aes.proofs.lookups.with_i.Goals as goal

pub look_up-requires : goal.look_up-requires
look_up-requires g c = (omega arith, are_places low_of low_in c.args.x c.low.result c.fits-x.1 c.low.ensures)

pub look_up-requires-2 : goal.look_up-requires-2
look_up-requires-2 g c = (omega arith, are_places high_of high_in c.args.x c.high.result c.fits-x.1 c.high.ensures)

pub returns : goal.returns
unfolding with_i_of
returns g c = zip2_of_maps bit_xor _ _ c.args.x
    (looked _ low_of c.args.x c.low.result c.look_up.result c.low.ensures c.look_up.ensures)
    (looked _ high_of c.args.x c.high.result c.look_up-2.result c.high.ensures c.look_up-2.ensures)
