-- The SHA-2 functions are hash functions.
use Rattle.std.proofs.Common.{lit<, lit≤}
use Rattle.sha2.proofs.Facts256.{length-sha256}
use Rattle.sha2.proofs.Facts512.{length-sha384, length-sha512}
use Rattle.prf.specs.HashFunction.{IsHashFunction}
use Rattle.prf.specs.Code.Sha2Octets.{IsOctets-sha256, IsOctets-sha384, IsOctets-sha512}
use Rattle.prf.specs.Sha2.{sha256_function, sha384_function, sha512_function}

pub sha256_is_hash_function : IsHashFunction sha256_function
sha256_is_hash_function = record {
  octets = IsOctets-sha256;
  digests = length-sha256;
  some_output = lit< tt;
  output_fits = lit≤ tt;
  output_fits_block = lit≤ tt;
  block_fits = lit≤ tt;
}

pub sha384_is_hash_function : IsHashFunction sha384_function
sha384_is_hash_function = record {
  octets = IsOctets-sha384;
  digests = length-sha384;
  some_output = lit< tt;
  output_fits = lit≤ tt;
  output_fits_block = lit≤ tt;
  block_fits = lit≤ tt;
}

pub sha512_is_hash_function : IsHashFunction sha512_function
sha512_is_hash_function = record {
  octets = IsOctets-sha512;
  digests = length-sha512;
  some_output = lit< tt;
  output_fits = lit≤ tt;
  output_fits_block = lit≤ tt;
  block_fits = lit≤ tt;
}
