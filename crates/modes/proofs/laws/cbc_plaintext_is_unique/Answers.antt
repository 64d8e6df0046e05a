use Rattle.modes.proofs.Opening.{one_plaintext}
use Rattle.modes.proofs.laws.cbc_plaintext_is_unique.Goals as goal

pub returns : goal.returns
returns c = λ e d iv p q law start x y same. one_plaintext e d law iv start p q x y same
