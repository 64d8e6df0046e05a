use Rattle.tokens.proofs.Signing.Texts.{signing_makes_texts}
use Rattle.tokens.proofs.laws.signing_makes_texts.Goals as goal

pub returns : goal.returns
returns c = signing_makes_texts
