use Rattle.std.proofs.Common.{bit_xor, arith}
use Rattle.std.proofs.lemmas.Simd.{zip2_of_maps}
use Rattle.aes.specs.Code.LookUps.{from_inverse, p_of, q_of}
use Rattle.aes.proofs.Places.{are_places, looked, p_in, q_in}
use Rattle.aes.proofs.lookups.from_inverse.Goals as goal

pub look_up-requires : goal.look_up-requires
look_up-requires g c = (omega arith, are_places p_of p_in c.args.x c.p.result c.fits-x.1 c.p.ensures)

pub look_up-requires-2 : goal.look_up-requires-2
look_up-requires-2 g c = (omega arith, are_places q_of q_in c.args.x c.q.result c.fits-x.1 c.q.ensures)

pub returns : goal.returns
unfolding from_inverse
returns g c = zip2_of_maps bit_xor _ _ c.args.x
    (looked _ p_of c.args.x c.p.result c.look_up.result c.p.ensures c.look_up.ensures)
    (looked _ q_of c.args.x c.q.result c.look_up-2.result c.q.ensures c.look_up-2.ensures)
