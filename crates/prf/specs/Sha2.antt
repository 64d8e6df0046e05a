-- The SHA-2 hash functions.
use Rattle.sha2.specs.Sha256.{sha256}
use Rattle.sha2.specs.Sha512.{sha384, sha512}
use Rattle.prf.specs.HashFunction.{HashFunction}
pub use Rattle.sha2.specs.declared.Sha256.{Sha256}
pub use Rattle.sha2.specs.declared.Sha384.{Sha384}
pub use Rattle.sha2.specs.declared.Sha512.{Sha512}

-- ---- their lengths and digests (FIPS 180-4 sections 1, 6.2, 6.4 and 6.5)

abbrev pub sha256_function : HashFunction
sha256_function = record { block_len = 64; output_len = 32; digest = sha256 }

abbrev pub sha384_function : HashFunction
sha384_function = record { block_len = 128; output_len = 48; digest = sha384 }

abbrev pub sha512_function : HashFunction
sha512_function = record { block_len = 128; output_len = 64; digest = sha512 }
