-- The algorithms of encrypted objects (RFC 7518 sections 4.1 and 5.1). The row of an algorithm says its name and what it is made of, and the
-- other pages define all else by the row.
use Rattle.std.specs.Prelude.{ℕ, ◌*◌, Bool, true, false, List, [], ◌∷◌, codes, Option}
use Rattle.std.specs.List.{find}
use Rattle.std.specs.Str.{bytes_eq}
use Rattle.ciphers.specs.declared.content_alg.ContentAlg.{ContentAlg}
use Rattle.ciphers.specs.declared.content_alg.ContentAlg.TheVariants.{A128CbcHs256, A192CbcHs384, A256CbcHs512, A128Gcm, A192Gcm, A256Gcm}
use Rattle.ciphers.specs.declared.key_alg.KeyAlg.{KeyAlg}
use Rattle.ciphers.specs.declared.key_alg.KeyAlg.TheVariants.{Dir, A128Kw, A192Kw, A256Kw, A128GcmKw, A192GcmKw, A256GcmKw, Pbes2Hs256A128Kw, Pbes2Hs384A192Kw, Pbes2Hs512A256Kw}
use Rattle.ciphers.specs.declared.key_alg.KeyManagementMode.{KeyManagementMode}
use Rattle.ciphers.specs.declared.key_alg.KeyManagementMode.TheVariants.{Direct, KeyWrap, Password, GcmKeyWrap}
use Rattle.prf.specs.HashFunction.{HashFunction}
use Rattle.prf.specs.Sha2.{sha256_function, sha384_function, sha512_function}

-- ---- content encryption (section 5.1)

-- AES in CBC mode with HMAC (section 5.2), or AES in GCM (section 5.3). The number counts the words of an AES key, 32 bits each.
pub data ContentFamily : Type 0 where
  aes_cbc_hmac : ℕ → HashFunction → ContentFamily
  aes_gcm : ℕ → ContentFamily

-- the value of `enc`, and what it is made of
pub record EncryptionRow : Type 0 where
  pub name : List ℕ
  pub family : ContentFamily

abbrev pub encryption_row : ContentAlg → EncryptionRow
encryption_row A128CbcHs256 = record { name = codes "A128CBC-HS256"; family = aes_cbc_hmac 4 sha256_function }
encryption_row A192CbcHs384 = record { name = codes "A192CBC-HS384"; family = aes_cbc_hmac 6 sha384_function }
encryption_row A256CbcHs512 = record { name = codes "A256CBC-HS512"; family = aes_cbc_hmac 8 sha512_function }
encryption_row A128Gcm = record { name = codes "A128GCM"; family = aes_gcm 4 }
encryption_row A192Gcm = record { name = codes "A192GCM"; family = aes_gcm 6 }
encryption_row A256Gcm = record { name = codes "A256GCM"; family = aes_gcm 8 }

abbrev pub encryption_algs : List ContentAlg
encryption_algs = A128CbcHs256 ∷ A192CbcHs384 ∷ A256CbcHs512 ∷ A128Gcm ∷ A192Gcm ∷ A256Gcm ∷ []

-- AES in CBC mode with HMAC, by the length of the key (section 5.2)
abbrev pub cbc_algs : List ContentAlg
cbc_algs = A128CbcHs256 ∷ A192CbcHs384 ∷ A256CbcHs512 ∷ []

abbrev pub content_family : ContentAlg → ContentFamily
content_family enc = (encryption_row enc).family

abbrev pub encryption_name : ContentAlg → List ℕ
encryption_name enc = (encryption_row enc).name

-- the algorithm of a name
unfoldable pub encryption_alg_of : List ℕ → Option ContentAlg
encryption_alg_of name = find (λ alg. bytes_eq name (encryption_name alg)) encryption_algs

-- ---- key management (section 4.1)

-- Direct use of the key (section 4.5), AES key wrap (section 4.4), AES in GCM (section 4.7), or AES key wrap under a key that PBKDF2
-- derives from a password with the HMAC of a hash function, where the algorithm's name is part of the salt (section 4.8).
pub data KeyFamily : Type 0 where
  direct : KeyFamily
  aes_key_wrap : ℕ → KeyFamily
  aes_gcm_key_wrap : ℕ → KeyFamily
  pbes2 : HashFunction → List ℕ → ℕ → KeyFamily

-- the value of `alg`, and how a key delivers the content encryption key
pub record ManagementRow : Type 0 where
  pub name : List ℕ
  pub family : KeyFamily

abbrev pub pbes2_row : List ℕ → HashFunction → ℕ → ManagementRow
pbes2_row name f nk = record { name = name; family = pbes2 f name nk }

abbrev pub management_row : KeyAlg → ManagementRow
management_row Dir = record { name = codes "dir"; family = direct }
management_row A128Kw = record { name = codes "A128KW"; family = aes_key_wrap 4 }
management_row A192Kw = record { name = codes "A192KW"; family = aes_key_wrap 6 }
management_row A256Kw = record { name = codes "A256KW"; family = aes_key_wrap 8 }
management_row A128GcmKw = record { name = codes "A128GCMKW"; family = aes_gcm_key_wrap 4 }
management_row A192GcmKw = record { name = codes "A192GCMKW"; family = aes_gcm_key_wrap 6 }
management_row A256GcmKw = record { name = codes "A256GCMKW"; family = aes_gcm_key_wrap 8 }
management_row Pbes2Hs256A128Kw = pbes2_row (codes "PBES2-HS256+A128KW") sha256_function 4
management_row Pbes2Hs384A192Kw = pbes2_row (codes "PBES2-HS384+A192KW") sha384_function 6
management_row Pbes2Hs512A256Kw = pbes2_row (codes "PBES2-HS512+A256KW") sha512_function 8

abbrev pub management_algs : List KeyAlg
management_algs =
    Dir ∷ A128Kw ∷ A192Kw ∷ A256Kw ∷ Pbes2Hs256A128Kw ∷ Pbes2Hs384A192Kw ∷ Pbes2Hs512A256Kw ∷ A128GcmKw ∷ A192GcmKw ∷ A256GcmKw ∷ []

abbrev pub key_family : KeyAlg → KeyFamily
key_family alg = (management_row alg).family

abbrev pub management_name : KeyAlg → List ℕ
management_name alg = (management_row alg).name

-- the algorithm of a name
unfoldable pub management_alg_among : List KeyAlg → List ℕ → Option KeyAlg
management_alg_among algs name = find (λ alg. bytes_eq name (management_name alg)) algs

abbrev pub management_alg_of : List ℕ → Option KeyAlg
management_alg_of name = management_alg_among management_algs name

abbrev pub mode_in : KeyFamily → KeyManagementMode
mode_in direct = Direct
mode_in (aes_key_wrap nk) = KeyWrap
mode_in (aes_gcm_key_wrap nk) = GcmKeyWrap
mode_in (pbes2 f name nk) = Password

abbrev pub mode_of : KeyAlg → KeyManagementMode
mode_of alg = mode_in (key_family alg)

-- the length in octets of the key that wraps the content encryption key, or 0 if there is none
abbrev pub kek_len_in : KeyFamily → ℕ
kek_len_in direct = 0
kek_len_in (aes_key_wrap nk) = 4 * nk
kek_len_in (aes_gcm_key_wrap nk) = 4 * nk
kek_len_in (pbes2 f name nk) = 4 * nk

abbrev pub kek_len : KeyAlg → ℕ
kek_len alg = kek_len_in (key_family alg)

-- the key is a password, of any octets (section 4.8)
abbrev pub is_password : KeyManagementMode → Bool
is_password Direct = false
is_password KeyWrap = false
is_password Password = true
is_password GcmKeyWrap = false

abbrev pub is_password_based : KeyAlg → Bool
is_password_based alg = is_password (mode_of alg)
