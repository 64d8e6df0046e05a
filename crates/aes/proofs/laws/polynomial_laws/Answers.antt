use Rattle.aes.proofs.Linear.{polynomial_laws}
use Rattle.aes.proofs.laws.polynomial_laws.Goals as goal

pub returns : goal.returns
returns c = polynomial_laws
