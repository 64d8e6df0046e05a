-- The digests of whole messages.
use Rattle.std.specs.Prelude.{ℕ, List}
use Rattle.sha2.specs.Sha256.{sha224, sha256}
use Rattle.sha2.specs.Sha512.{sha384, sha512}
use Rattle.prf.specs.declared.digests.HashAlg.{HashAlg}
use Rattle.prf.specs.declared.digests.HashAlg.TheVariants.{S224, S256, S384, S512}

-- the digest of a message (FIPS 180-4 sections 6.2 to 6.5)
abbrev pub digest_of : HashAlg → List ℕ → List ℕ
digest_of S224 message = sha224 message
digest_of S256 message = sha256 message
digest_of S384 message = sha384 message
digest_of S512 message = sha512 message
