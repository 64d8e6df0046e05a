use Rattle.std.proofs.Common.{arith}
use Rattle.aes.proofs.Keys.{encrypts, makes_cipher, decrypts}
use Rattle.aes.proofs.aes.Aes192.new.Goals as goal

pub invariant_of-result : goal.invariant_of-result
invariant_of-result c = record {
  is_cipher = makes_cipher 6 c.args.key.now c.key_expansion.new.round_keys c.key_expansion.ensures
      (λ i. omega (arith, c.fits-key i));
}

pub returns-clause-encrypts : goal.returns-clause-encrypts
returns-clause-encrypts c = encrypts 6 c.args.key.now c.key_expansion.new.round_keys c.key_expansion.ensures

pub returns-clause-decrypts : goal.returns-clause-decrypts
returns-clause-decrypts c = decrypts 6 c.args.key.now c.key_expansion.new.round_keys c.key_expansion.ensures (λ i. omega (arith, c.fits-key i))
