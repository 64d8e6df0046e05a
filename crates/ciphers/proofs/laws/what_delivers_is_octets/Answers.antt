use Rattle.ciphers.proofs.Octets.{delivering_is_octets}
use Rattle.ciphers.proofs.laws.what_delivers_is_octets.Goals as goal

pub returns : goal.returns
returns c = delivering_is_octets c.encrypted_block_is_cipher.ensures c.derived_key_is_octets.ensures
