use Rattle.std.proofs.Common.{bit_and}
use Rattle.std.proofs.lemmas.Simd.{zip2_splat}
use Rattle.aes.proofs.lookups.low.Goals as goal

pub returns : goal.returns
returns g c = zip2_splat bit_and c.args.x g.row.N 15 c.fits-x.0
