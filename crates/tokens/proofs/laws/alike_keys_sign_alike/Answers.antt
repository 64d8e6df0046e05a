use Rattle.tokens.proofs.Verifying.Signers.{alike_keys_sign_alike}
use Rattle.tokens.proofs.laws.alike_keys_sign_alike.Goals as goal

pub returns : goal.returns
returns c = alike_keys_sign_alike
