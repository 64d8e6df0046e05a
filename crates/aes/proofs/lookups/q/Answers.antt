use Rattle.std.proofs.Common.{bit_xor, arith}
use Rattle.std.proofs.lemmas.Simd.{zip2_of_maps}
use Rattle.aes.specs.Code.LookUps.{q_of, with_j_of}
use Rattle.aes.proofs.Places.{are_places, looked, with_j_in}
use Rattle.aes.proofs.lookups.q.Goals as goal

pub look_up-requires : goal.look_up-requires
look_up-requires g c = (omega arith, are_places with_j_of with_j_in c.args.x c.with_j.result c.fits-x.1 c.with_j.ensures)

pub returns : goal.returns
unfolding q_of
returns g c = zip2_of_maps bit_xor _ _ c.args.x
    (looked _ with_j_of c.args.x c.with_j.result c.look_up.result c.with_j.ensures c.look_up.ensures)
    c.high.ensures
