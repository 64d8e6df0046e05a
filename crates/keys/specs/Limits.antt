-- The limits of this profile, and its algorithms. They are an argument of the definitions that test them, so that a law can compare two
-- versions.
use Rattle.std.specs.Prelude.{ℕ, Bool, nat_le, List}
use Rattle.ciphers.specs.declared.key_alg.KeyAlg.{KeyAlg}
use Rattle.ciphers.specs.Algorithms.{management_algs}

-- the numbers of docs/SPECIFICATION.md "Keys" 1 and 2, "Making keys" 1 and 4, "Objects" 2, "Signing" 4, "Decrypting" 2, and "Encrypting" 5
-- and 7
pub record Limits : Type 0 where
  -- the most keys of a set, good or bad, and the most octets of a key
  pub keys : ℕ
  pub key_octets : ℕ
  -- the greatest depth of a header or a key that is written
  pub depth : ℕ
  -- the most recipients, or signatures, of an object
  pub recipients : ℕ
  -- the greatest p2c that is read; the least, the greatest and the usual one that is written
  pub greatest_p2c_read : ℕ
  pub least_p2c : ℕ
  pub greatest_p2c : ℕ
  pub usual_p2c : ℕ
  -- the greatest sum of p2c over the recipients of an object that is written, and over the pairs of a recipient and a key that would be
  -- tried
  pub p2c_sum : ℕ
  -- the algorithms of key management
  pub management : List KeyAlg

-- the limits of this profile (docs/SPECIFICATION.md "Keys" to "Encrypting")
abbrev pub limits : Limits
limits = record {
  keys = 64;
  key_octets = 4096;
  depth = 64;
  recipients = 256;
  greatest_p2c_read = 2000000;
  least_p2c = 1000;
  greatest_p2c = 2000000;
  usual_p2c = 100000;
  p2c_sum = 16000000;
  management = management_algs;
}

-- n recipients or signatures are not too many for an object (docs/SPECIFICATION.md "Objects" 2)
abbrev pub are_few : Limits → ℕ → Bool
are_few limits n = nat_le n limits.recipients
