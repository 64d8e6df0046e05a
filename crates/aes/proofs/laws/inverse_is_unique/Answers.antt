use Rattle.aes.proofs.Inverses.{inverse_only, inverse_zero}
use Rattle.aes.proofs.laws.inverse_is_unique.Goals as goal

pub returns : goal.returns
returns c = record { unique = inverse_only; zero = inverse_zero }
