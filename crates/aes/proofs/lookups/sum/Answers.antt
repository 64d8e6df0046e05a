use Rattle.std.proofs.Common.{bit_xor}
use Rattle.std.proofs.lemmas.Simd.{zip2_of_maps}
use Rattle.aes.specs.Code.LookUps.{low_of, high_of}
use Rattle.aes.proofs.lookups.sum.Goals as goal

pub returns : goal.returns
returns g c = zip2_of_maps bit_xor high_of low_of c.args.x c.high.ensures c.low.ensures
