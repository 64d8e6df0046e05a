use Rattle.std.proofs.Common.{bit_xor, arith}
use Rattle.std.proofs.lemmas.Simd.{get_or-zip2}
use Rattle.aes.proofs.key_expansion.sum.Goals as goal

pub returns : goal.returns
returns c r h = get_or-zip2 bit_xor c.args.a c.args.b r 0 0 0 (omega (arith, c.fits-a.0, h)) (omega (arith, c.fits-b.0, h))
