use Rattle.tokens.proofs.Verifying.First.{first_verifies}
use Rattle.tokens.proofs.laws.first_verifies.Goals as goal

pub returns : goal.returns
returns c = first_verifies
