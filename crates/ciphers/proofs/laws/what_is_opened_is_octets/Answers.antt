use Rattle.ciphers.proofs.Octets.{opened_is_octets}
use Rattle.ciphers.proofs.laws.what_is_opened_is_octets.Goals as goal

pub returns : goal.returns
returns c = opened_is_octets c.encrypted_block_is_cipher.ensures
