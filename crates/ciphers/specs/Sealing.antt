-- Content encryption (RFC 7518 sections 5.2 and 5.3).
use Rattle.std.specs.Prelude.{◌≡◌, ℕ, ◌*◌, ◌/◌, ◌<◌, ◌==◌, Option, None, Some, List, ◌++◌, length, take, drop}
use Rattle.std.specs.List.{find}
use Rattle.std.specs.Option.{IsSomeAnd}
use Rattle.aes.specs.Cipher.{encrypted_block}
use Rattle.ciphers.specs.Algorithms.{ContentFamily, aes_cbc_hmac, aes_gcm, cbc_algs, content_family}
use Rattle.ciphers.specs.declared.content_alg.ContentAlg.{ContentAlg}
use Rattle.modes.specs.Cbc.{cbc, cbc_blocks}
use Rattle.modes.specs.Gcm.{bit_length, gcm_ciphertext, gcm_tag, longest}
use Rattle.octets.specs.Octets.{IsOctets}
use Rattle.prf.specs.HashFunction.{HashFunction}
use Rattle.prf.specs.Hmac.{hmac}

-- the ciphertext and the authentication tag of a plaintext (RFC 7516 section 5.1, step 15)
pub record Sealed : Type 0 where
  pub ciphertext : List ℕ
  pub tag : List ℕ

-- The encryption of plaintexts under one key, IV and additional data (RFC 7516 section 5.1, step 15): the result for a plaintext, the part
-- of the ciphertext that a beginning of the plaintext fixes, and the length of the longest plaintext, if there is one.
pub record Sealing : Type 0 where
  pub sealed : List ℕ → Sealed
  pub fixed : List ℕ → List ℕ
  pub longest : Option ℕ

-- p is longer than the longest plaintext (SP 800-38D section 5.2.1.1, for GCM)
abbrev pub IsTooLong : Sealing → List ℕ → Type 0
IsTooLong s p = IsSomeAnd s.longest (λ most. most < length p)

-- ---- AES-CBC with HMAC (section 5.2.2.1)

-- steps 4 and 5: the first half of the MAC of A, IV, E and AL, where AL is the number of bits of A
unfoldable pub cbc_tag : HashFunction → List ℕ → List ℕ → List ℕ → List ℕ → List ℕ
cbc_tag f mac_key iv aad c = take (f.output_len / 2) (hmac f mac_key (((aad ++ iv) ++ c) ++ bit_length aad))

-- steps 2 to 6, by the cipher whose encryption of a block is e
abbrev pub cbc_hmac : (List ℕ → List ℕ) → HashFunction → List ℕ → List ℕ → List ℕ → Sealing
cbc_hmac e f mac_key iv aad = record {
  sealed = λ p. record { ciphertext = cbc e iv p; tag = cbc_tag f mac_key iv aad (cbc e iv p) };
  fixed = cbc_blocks e iv;
  longest = None;
}

-- ---- AES-GCM (section 5.3)

abbrev pub gcm : (List ℕ → List ℕ) → List ℕ → List ℕ → Sealing
gcm e iv aad = record {
  sealed = λ p. record { ciphertext = gcm_ciphertext e iv p; tag = gcm_tag e iv aad (gcm_ciphertext e iv p) };
  fixed = gcm_ciphertext e iv;
  longest = Some longest;
}

-- ---- the algorithms (section 5.1)

-- the length of a content encryption key in octets: that of an AES key, and with HMAC as much again for the MAC key (section 5.2.2.1)
abbrev pub cek_len_in : ContentFamily → ℕ
cek_len_in (aes_cbc_hmac nk f) = 8 * nk
cek_len_in (aes_gcm nk) = 4 * nk

abbrev pub cek_len : ContentAlg → ℕ
cek_len alg = cek_len_in (content_family alg)

-- the algorithm in CBC mode whose content encryption keys have n octets
abbrev pub cbc_alg_with : ℕ → Option ContentAlg
cbc_alg_with n = find (λ enc. n == cek_len enc) cbc_algs

-- the length of an IV in octets: 128 bits (section 5.2.2.1) or 96 bits (section 5.3)
abbrev pub iv_len_in : ContentFamily → ℕ
iv_len_in (aes_cbc_hmac nk f) = 16
iv_len_in (aes_gcm nk) = 12

abbrev pub iv_len : ContentAlg → ℕ
iv_len alg = iv_len_in (content_family alg)

-- Under a content encryption key. With HMAC its first half is the MAC key, and its second half the AES key (section 5.2.2.1, step 1).
abbrev pub sealing_in : ContentFamily → List ℕ → List ℕ → List ℕ → Sealing
sealing_in (aes_cbc_hmac nk f) cek = cbc_hmac (encrypted_block nk (drop (4 * nk) cek)) f (take (4 * nk) cek)
sealing_in (aes_gcm nk) cek = gcm (encrypted_block nk cek)

unfoldable pub sealing : ContentAlg → List ℕ → List ℕ → List ℕ → Sealing
sealing alg = sealing_in (content_family alg)

-- ---- opening (sections 5.2.2.2 and 5.3)

-- p is the plaintext of a ciphertext and a tag
pub record Opens (s : Sealing) (c tag p : List ℕ) : Type 0 where
  pub octets : IsOctets p
  pub short : IsTooLong s p → ⊥
  pub ciphertext : (s.sealed p).ciphertext ≡ c
  pub is_tag : (s.sealed p).tag ≡ tag

-- under a key and an IV, which have their lengths
pub record IsOpening (alg : ContentAlg) (cek iv aad c tag p : List ℕ) : Type 0 where
  pub cek_fits : length cek ≡ cek_len alg
  pub iv_fits : length iv ≡ iv_len alg
  pub opens : Opens (sealing alg cek iv aad) c tag p
