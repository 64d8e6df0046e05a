use Rattle.std.proofs.Common.{ap, ◌∙◌}
use Rattle.std.proofs.Math.Path.{fun_ext}
use Rattle.aes.specs.Cipher.{encrypted_block}
use Rattle.ciphers.proofs.kek.Aes128Keyed.under.Goals as goal

pub returns : goal.returns
returns c = fun_ext c.new.ensures.encrypts ∙ ap (encrypted_block 4) c.array.ensures
