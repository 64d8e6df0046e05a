use Rattle.std.proofs.Common.{arith, ◌/◌, ◌^◌}
use Rattle.std.proofs.lemmas.Simd.{zip2_splat, shifts_fit_splat}
use Rattle.aes.proofs.lookups.high.Goals as goal

pub overflow_shr-result : goal.overflow_shr-result
overflow_shr-result g c = shifts_fit_splat 8 c.args.x g.row.N 4 (omega arith)

pub returns : goal.returns
returns g c = zip2_splat (λ a b. a / 2 ^ b) c.args.x g.row.N 4 c.fits-x.0
