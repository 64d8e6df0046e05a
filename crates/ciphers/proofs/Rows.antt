-- The facts about each row that the laws need: the lengths of content encryption keys and the hash functions.
use Rattle.std.proofs.Common.{◌≡◌, ◌%◌, ◌≤◌, refl, lit≤}
use Rattle.std.specs.Bool.{⊤}
use Rattle.ciphers.specs.Algorithms.{ContentFamily, aes_cbc_hmac, aes_gcm, content_family, KeyFamily, pbes2, key_family}
use Rattle.ciphers.specs.Sealing.{cek_len_in}
use Rattle.ciphers.specs.declared.content_alg.ContentAlg.{ContentAlg}
use Rattle.ciphers.specs.declared.content_alg.ContentAlg.TheVariants.{A128CbcHs256, A192CbcHs384, A256CbcHs512, A128Gcm, A192Gcm, A256Gcm}
use Rattle.ciphers.specs.declared.key_alg.KeyAlg.{KeyAlg}
use Rattle.ciphers.specs.declared.key_alg.KeyAlg.TheVariants.{Dir, A128Kw, A192Kw, A256Kw, A128GcmKw, A192GcmKw, A256GcmKw, Pbes2Hs256A128Kw, Pbes2Hs384A192Kw, Pbes2Hs512A256Kw}
use Rattle.prf.specs.HashFunction.{HashFunction, IsHashFunction}
use Rattle.prf.specs.Code.Sha2Laws.{sha256_is_hash_function, sha384_is_hash_function, sha512_is_hash_function}

-- a hash function with at least two octets of output
pub record IsHash (f : HashFunction) : Type 0 where
  pub law : IsHashFunction f
  pub two : 2 ≤ f.output_len

abbrev pub HasHash : ContentFamily → Type 0
HasHash (aes_cbc_hmac nk f) = IsHash f
HasHash (aes_gcm nk) = ⊤

-- a content encryption key may be wrapped and has at most 64 octets
pub record IsContentRow (family : ContentFamily) : Type 0 where
  pub parts : cek_len_in family % 8 ≡ 0
  pub two : 16 ≤ cek_len_in family
  pub most : cek_len_in family ≤ 64
  pub hash : HasHash family

pub content_row : (alg : ContentAlg) → IsContentRow (content_family alg)
content_row A128CbcHs256 = record { parts = refl; two = lit≤ tt; most = lit≤ tt; hash = record { law = sha256_is_hash_function; two = lit≤ tt } }
content_row A192CbcHs384 = record { parts = refl; two = lit≤ tt; most = lit≤ tt; hash = record { law = sha384_is_hash_function; two = lit≤ tt } }
content_row A256CbcHs512 = record { parts = refl; two = lit≤ tt; most = lit≤ tt; hash = record { law = sha512_is_hash_function; two = lit≤ tt } }
content_row A128Gcm = record { parts = refl; two = lit≤ tt; most = lit≤ tt; hash = tt }
content_row A192Gcm = record { parts = refl; two = lit≤ tt; most = lit≤ tt; hash = tt }
content_row A256Gcm = record { parts = refl; two = lit≤ tt; most = lit≤ tt; hash = tt }

abbrev pub IsKeyRow : KeyFamily → Type 0
IsKeyRow (pbes2 f name nk) = IsHashFunction f
IsKeyRow family = ⊤

pub key_row : (alg : KeyAlg) → IsKeyRow (key_family alg)
key_row Dir = tt
key_row A128Kw = tt
key_row A192Kw = tt
key_row A256Kw = tt
key_row A128GcmKw = tt
key_row A192GcmKw = tt
key_row A256GcmKw = tt
key_row Pbes2Hs256A128Kw = sha256_is_hash_function
key_row Pbes2Hs384A192Kw = sha384_is_hash_function
key_row Pbes2Hs512A256Kw = sha512_is_hash_function
