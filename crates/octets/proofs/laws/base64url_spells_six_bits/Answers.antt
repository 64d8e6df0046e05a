use Rattle.octets.proofs.Characters.{spells_six_bits}
use Rattle.octets.proofs.laws.base64url_spells_six_bits.Goals as goal

pub returns : goal.returns
returns c = spells_six_bits
