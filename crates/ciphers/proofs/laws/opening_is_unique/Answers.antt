use Rattle.ciphers.proofs.Unique.{one_opening}
use Rattle.ciphers.proofs.laws.opening_is_unique.Goals as goal

pub returns : goal.returns
returns c = one_opening c.encrypted_block_is_cipher.ensures c.cbc_plaintext_is_unique.ensures c.gcm_plaintext_is_unique.ensures
