use Rattle.aes.proofs.Keys.{one_block}
use Rattle.aes.proofs.laws.decrypted_block_is_unique.Goals as goal

pub returns : goal.returns
returns c = one_block
