use Rattle.std.proofs.Common.{arith}
use Rattle.ciphers.proofs.Unwrapping.{unwrapping_long}
use Rattle.ciphers.proofs.key_alg.unwrapped_cek.Goals as goal

pub returns-then-encrypted_key-len-clause-nothing : goal.returns-then-encrypted_key-len-clause-nothing
returns-then-encrypted_key-len-clause-nothing g c cek fits u =
    let long = unwrapping_long (g.B.Block.encrypted c.args.kek.now) (g.B.Block.decrypted c.args.kek.now)
    (g.met.B.Block.is_cipher c.args.kek.now) c.args.encrypted_key.now cek u in
    c.if-encrypted_key-len.true (omega (arith, long, fits, c.cek_len-len.ensures))
