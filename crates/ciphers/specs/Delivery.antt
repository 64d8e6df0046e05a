-- The delivery of content encryption keys (RFC 7518 sections 4.4, 4.5, 4.7 and 4.8). A recipient's key, its header parameters and an
-- encrypted key deliver at most one.
use Rattle.std.specs.Prelude.{◌≡◌, ◌==◌, ◌&&◌, ℕ, ◌*◌, Bool, true, List, [], ◌∷◌, ◌++◌, length}
use Rattle.std.specs.Str.{bytes_eq}
use Rattle.aes.specs.Cipher.{encrypted_block}
use Rattle.ciphers.specs.Algorithms.{KeyFamily, direct, aes_key_wrap, aes_gcm_key_wrap, pbes2, key_family}
use Rattle.ciphers.specs.KeyWrap.{wrapped}
use Rattle.ciphers.specs.Sealing.{cek_len}
use Rattle.ciphers.specs.declared.content_alg.ContentAlg.{ContentAlg}
use Rattle.ciphers.specs.declared.key_alg.KeyAlg.{KeyAlg}
use Rattle.modes.specs.Gcm.{gcm_ciphertext, gcm_tag}
use Rattle.octets.specs.Octets.{IsOctets}
use Rattle.prf.specs.HashFunction.{HashFunction}
use Rattle.prf.specs.Pbkdf2.{pbkdf2}

-- the header parameters that an algorithm may read: the octets of iv and tag of AES in GCM (section 4.7.1), the octets of p2s and the p2c
-- of a password (section 4.8.1)
pub record Parameters : Type 0 where
  pub iv : List ℕ
  pub tag : List ℕ
  pub p2s : List ℕ
  pub p2c : ℕ

-- ---- the IV of AES-GCM key wrap

-- the length of the IV of a key wrap in octets: 96 bits (section 4.7.1.1)
abbrev pub key_iv_len : ℕ
key_iv_len = 12

-- ---- the ways of delivery (sections 4.4, 4.5, 4.7 and 4.8)

-- the key that PBES2 derives from a password: the salt is the algorithm's name, a zero octet and p2s (section 4.8.1.1)
unfoldable pub derived_key : HashFunction → List ℕ → ℕ → List ℕ → List ℕ → ℕ → List ℕ
derived_key f name len password p2s p2c = pbkdf2 f password (name ++ 0 ∷ p2s) p2c len

-- The key is the content encryption key (section 4.5), or the cipher whose encryption of a block is e wraps it (section 4.4) or encrypts it
-- in GCM (section 4.7).
pub data Way : Type 0 where
  directly : Way
  by_wrap : (List ℕ → List ℕ) → Way
  by_gcm : (List ℕ → List ℕ) → Way

abbrev pub way_in : KeyFamily → List ℕ → Parameters → Way
way_in direct key p = directly
way_in (aes_key_wrap nk) key p = by_wrap (encrypted_block nk key)
way_in (aes_gcm_key_wrap nk) key p = by_gcm (encrypted_block nk key)
way_in (pbes2 f name nk) key p = by_wrap (encrypted_block nk (derived_key f name (4 * nk) key p.p2s p.p2c))

abbrev pub way_of : KeyAlg → List ℕ → Parameters → Way
way_of alg = way_in (key_family alg)

-- ---- the encrypted key and its tag (sections 4.4, 4.5 and 4.7)

-- the encrypted key of a content encryption key, which is empty if the key is used directly
abbrev pub encrypted_by : Way → Parameters → List ℕ → List ℕ
encrypted_by directly p cek = []
encrypted_by (by_wrap e) p cek = wrapped e cek
encrypted_by (by_gcm e) p cek = gcm_ciphertext e p.iv cek

unfoldable pub encrypted_key_of : KeyAlg → List ℕ → Parameters → List ℕ → List ℕ
encrypted_key_of alg key p = encrypted_by (way_of alg key p) p

-- its authentication tag in GCM, without additional data (section 4.7); otherwise it is empty
abbrev pub tag_by : Way → Parameters → List ℕ → List ℕ
tag_by (by_gcm e) p cek = gcm_tag e p.iv [] (gcm_ciphertext e p.iv cek)
tag_by way p cek = []

unfoldable pub key_tag_of : KeyAlg → List ℕ → Parameters → List ℕ → List ℕ
key_tag_of alg key p = tag_by (way_of alg key p) p

-- ---- the delivery (RFC 7516 section 5.2, steps 9 to 11)

-- It is the key that is used directly (section 4.5), or in GCM the IV has its length and the tag is right (section 4.7). With key wrap
-- nothing more is asked: with another initial value the encrypted key is not its wrapping.
abbrev pub agrees_by : Way → List ℕ → Parameters → List ℕ → Bool
agrees_by directly key p cek = bytes_eq cek key
agrees_by (by_wrap e) key p cek = true
agrees_by (by_gcm e) key p cek = length p.iv == key_iv_len && bytes_eq (tag_by (by_gcm e) p cek) p.tag

-- cek has the length that the content encryption takes, and is encrypted to the encrypted key (RFC 7516 section 5.2, steps 9 to 11)
abbrev pub is_delivered_by : Way → ContentAlg → List ℕ → Parameters → List ℕ → List ℕ → Bool
is_delivered_by way enc key p encrypted cek = length cek == cek_len enc && (bytes_eq (encrypted_by way p cek) encrypted && agrees_by way key p cek)

pub record Delivers (way : Way) (enc : ContentAlg) (key : List ℕ) (p : Parameters) (encrypted cek : List ℕ) : Type 0 where
  pub octets : IsOctets cek
  pub is_delivered : is_delivered_by way enc key p encrypted cek ≡ true

-- cek is the content encryption key that is delivered
abbrev pub IsDelivered : KeyAlg → ContentAlg → List ℕ → Parameters → List ℕ → List ℕ → Type 0
IsDelivered alg enc key p = Delivers (way_of alg key p) enc key p
