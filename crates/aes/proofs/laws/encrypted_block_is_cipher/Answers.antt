use Rattle.aes.proofs.Keys.{encrypted_block_is_cipher}
use Rattle.aes.proofs.laws.encrypted_block_is_cipher.Goals as goal

pub returns : goal.returns
returns c = encrypted_block_is_cipher
