use Rattle.std.proofs.Common.{bit_xor, arith}
use Rattle.std.proofs.lemmas.Simd.{zip2_of_maps}
use Rattle.aes.specs.Code.LookUps.{p_of, with_i_of}
use Rattle.aes.proofs.Places.{are_places, looked, with_i_in}
use Rattle.aes.proofs.lookups.p.Goals as goal

pub look_up-requires : goal.look_up-requires
look_up-requires g c = (omega arith, are_places with_i_of with_i_in c.args.x c.with_i.result c.fits-x.1 c.with_i.ensures)

pub returns : goal.returns
unfolding p_of
returns g c = zip2_of_maps bit_xor _ _ c.args.x
    (looked _ with_i_of c.args.x c.with_i.result c.look_up.result c.with_i.ensures c.look_up.ensures)
    c.sum.ensures
