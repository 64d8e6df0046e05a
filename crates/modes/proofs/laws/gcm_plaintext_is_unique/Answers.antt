use Rattle.modes.proofs.Protecting.{one_plaintext}
use Rattle.modes.proofs.laws.gcm_plaintext_is_unique.Goals as goal

pub returns : goal.returns
returns c = one_plaintext
