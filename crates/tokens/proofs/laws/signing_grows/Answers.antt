use Rattle.tokens.proofs.Signing.Growth.{signing_grows}
use Rattle.tokens.proofs.laws.signing_grows.Goals as goal

pub returns : goal.returns
returns c = signing_grows
