use Rattle.ciphers.proofs.Unwrapping.{one_unwrapping}
use Rattle.ciphers.proofs.laws.unwrapping_is_unique.Goals as goal

pub returns : goal.returns
returns c = λ e d text p q law short u v. one_unwrapping e d law text p q short u v
