use Rattle.aes.proofs.Vectors.{sum_is}
use Rattle.aes.proofs.state.sum.Goals as goal

pub returns : goal.returns
returns g c i h = sum_is g.row.N c.args.a c.args.b i c.fits-a.0 c.fits-b.0 h
