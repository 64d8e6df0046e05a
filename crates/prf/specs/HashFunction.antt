-- A hash function on whole messages (RFC 2104 section 2).
use Rattle.std.specs.Prelude.{◌≡◌, ℕ, ◌<◌, ◌≤◌, List, length}
use Rattle.octets.specs.Octets.{IsOctets}

-- its block length B and its output length L in octets, and the digest of each message (section 2)
pub record HashFunction : Type 0 where
  pub block_len : ℕ
  pub output_len : ℕ
  pub digest : List ℕ → List ℕ

-- Each digest is octets. It has the output length, which is from 1 to 64 and at most the block length, and that is at most 128, as in
-- FIPS 180-4 section 1.
pub record IsHashFunction (f : HashFunction) : Type 0 where
  pub octets : (message : List ℕ) → IsOctets (f.digest message)
  pub digests : (message : List ℕ) → length (f.digest message) ≡ f.output_len
  pub some_output : 0 < f.output_len
  pub output_fits : f.output_len ≤ 64
  pub output_fits_block : f.output_len ≤ f.block_len
  pub block_fits : f.block_len ≤ 128
