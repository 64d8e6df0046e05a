-- What a running HMAC was started with, and what it was fed.
use Rattle.std.specs.Prelude.{ℕ, List, ◌++◌}
use Rattle.prf.specs.HashFunction.{HashFunction}
use Rattle.prf.specs.Hmac.{inner_key, outer_key}
use Rattle.prf.specs.declared.hmac.Hmac.{Hmac}
use Rattle.prf.specs.declared.digests.HashAlg.{HashAlg}
use Rattle.prf.specs.declared.digests.HashAlg.TheVariants.{S224, S256, S384, S512}

-- it was started with this key, and was fed this text
pub record HoldsHmac {H : Type 0} (f : HashFunction) (holds : H → List ℕ → Type 0) (s : Hmac H) (key text : List ℕ) : Type 0 where
  pub inner : holds s.inner (inner_key f key ++ text)
  pub outer : holds s.outer (outer_key f key)

-- the length of a digest in octets (FIPS 180-4 section 1)
abbrev pub digest_len : HashAlg → ℕ
digest_len S224 = 28
digest_len S256 = 32
digest_len S384 = 48
digest_len S512 = 64
