-- What contracts see of the registers of a key wrap, of its cipher, and of running sealings.
use Rattle.std.specs.Prelude.{◌≡◌, ℕ, suc, ◌+◌, ◌-◌, ◌*◌, ◌/◌, ◌<◌, ◌≤◌, List, ◌++◌, length, drop, replicate}
use Rattle.aes.specs.Block.{IsCipher}
use Rattle.aes.specs.declared.aes.Aes128.{Aes128}
use Rattle.aes.specs.declared.aes.Aes192.{Aes192}
use Rattle.aes.specs.declared.aes.Aes256.{Aes256}
use Rattle.ciphers.specs.Delivery.{Parameters, Way, directly, by_wrap, by_gcm}
use Rattle.ciphers.specs.KeyWrap.{part, table}
use Rattle.ciphers.specs.Sealing.{Sealing, cbc_hmac, gcm}
use Rattle.ciphers.specs.declared.authentication.Authentication.{Authentication}
use Rattle.ciphers.specs.declared.cbc_hmac.CbcHmac.{CbcHmac}
use Rattle.ciphers.specs.declared.kek.Kek.{Kek}
use Rattle.ciphers.specs.declared.kek.Kek.TheVariants.{A128, A192, A256}
use Rattle.ciphers.specs.declared.kek.Way.{Way as CodeWay}
use Rattle.ciphers.specs.declared.kek.Way.TheVariants.{Direct, Wrap, Encrypt}
use Rattle.ciphers.specs.declared.key_alg.KeyParameters.{KeyParameters}
use Rattle.ciphers.specs.declared.content_alg.ContentSealer.{ContentSealer}
use Rattle.ciphers.specs.declared.content_alg.ContentSealer.TheVariants.{A128CbcHs256, A192CbcHs384, A256CbcHs512, A128Gcm, A192Gcm, A256Gcm}
use Rattle.modes.specs.Cbc.{cbc_blocks}
use Rattle.modes.specs.Gcm.{bit_length, gcm_ciphertext}
use Rattle.modes.specs.Code.Views as modes
use Rattle.modes.specs.declared.gcm.Gcm.{Gcm}
use Rattle.prf.specs.HashFunction.{HashFunction}
use Rattle.prf.specs.Sha2.{Sha256, Sha384, Sha512}
use Rattle.prf.specs.Code.Views as prf

-- ---- key wrap

-- a and r are row t of the table
pub record IsRow (e : List ℕ → List ℕ) (p : List ℕ) (t : ℕ) (a r : List ℕ) : Type 0 where
  pub long : length r ≡ length p
  pub check : a ≡ table e p t 0
  pub registers : (i : ℕ) → i < length p / 8 → part r i ≡ table e p t (suc i)

-- what the one cipher that there is sends a block to
abbrev pub on_kek : Kek → (Aes128 → List ℕ → List ℕ) → (Aes192 → List ℕ → List ℕ) → (Aes256 → List ℕ → List ℕ) → List ℕ → List ℕ
on_kek (A128 k) a b c = a k
on_kek (A192 k) a b c = b k
on_kek (A256 k) a b c = c k

pub on_each_kek : {e d : Aes128 → List ℕ → List ℕ} {e' d' : Aes192 → List ℕ → List ℕ} {e'' d'' : Aes256 → List ℕ → List ℕ}
    → ((k : Aes128) → IsCipher (e k) (d k)) → ((k : Aes192) → IsCipher (e' k) (d' k)) → ((k : Aes256) → IsCipher (e'' k) (d'' k))
    → (k : Kek) → IsCipher (on_kek k e e' e'') (on_kek k d d' d'')
on_each_kek a b c (A128 k) = a k
on_each_kek a b c (A192 k) = b k
on_each_kek a b c (A256 k) = c k

-- ---- key management

-- what a recipient's header gives
abbrev pub parameters_view : KeyParameters → Parameters
parameters_view p = record { iv = p.iv.now; tag = p.tag.now; p2s = p.p2s.now; p2c = p.p2c }

-- the way that the code goes, by what each cipher sends a block to
abbrev pub way_view : (Kek → List ℕ → List ℕ) → CodeWay → Way
way_view encrypted Direct = directly
way_view encrypted (Wrap kek calls) = by_wrap (encrypted kek)
way_view encrypted (Encrypt kek) = by_gcm (encrypted kek)

-- how many calls of HMAC were made to derive the key of its cipher
abbrev pub calls_made : CodeWay → ℕ
calls_made Direct = 0
calls_made (Wrap kek calls) = calls
calls_made (Encrypt kek) = 0

-- ---- a running sealing: what it was started with, and what it was fed

-- the part of the ciphertext that p fixes is as long as p, but for at most sixteen octets
pub record KeepsPace (s : Sealing) (p : List ℕ) : Type 0 where
  pub within : length (s.fixed p) ≤ length p
  pub nearly : length p ≤ length (s.fixed p) + 16

-- it was started with these, and has taken this ciphertext
pub record HoldsAuthentication {H : Type 0} (f : HashFunction) (holds : H → List ℕ → Type 0) (s : Authentication H) (mac_key iv aad c : List ℕ) : Type 0 where
  pub mac : prf.HoldsHmac f holds s.mac mac_key ((aad ++ iv) ++ c)
  pub bits : s.aad_bits ≡ bit_length aad

-- it was started for this sealing, and has taken p
pub record HoldsCbcHmac {B H : Type 0} (encrypted : B → List ℕ → List ℕ) (f : HashFunction) (holds : H → List ℕ → Type 0) (s : CbcHmac B H) (sealing : Sealing)
    (p : List ℕ) : Type 0 where
  pub e : List ℕ → List ℕ
  pub mac_key : List ℕ
  pub iv : List ℕ
  pub aad : List ℕ
  pub is_sealing : sealing ≡ cbc_hmac e f mac_key iv aad
  pub cbc : modes.HoldsCbc encrypted s.cbc e iv p
  pub authentication : HoldsAuthentication f holds s.authentication mac_key iv aad (cbc_blocks e iv p)
  pub whole : length (cbc_blocks e iv p) ≡ 16 * (length p / 16)
  pub pace : KeepsPace sealing p

pub record HoldsGcmSealing {B : Type 0} (encrypted : B → List ℕ → List ℕ) (s : Gcm B) (sealing : Sealing) (p : List ℕ) : Type 0 where
  pub e : List ℕ → List ℕ
  pub iv : List ℕ
  pub aad : List ℕ
  pub is_sealing : sealing ≡ gcm e iv aad
  pub gcm : modes.HoldsGcm encrypted s e iv aad p
  pub whole : length (gcm_ciphertext e iv p) ≡ length p
  pub pace : KeepsPace sealing p

-- what the types of the code say of themselves: what a cipher sends a block to, the function of a hash, and what a hash has taken
pub record Primitives : Type 1 where
  pub aes128 : Aes128 → List ℕ → List ℕ
  pub aes192 : Aes192 → List ℕ → List ℕ
  pub aes256 : Aes256 → List ℕ → List ℕ
  pub sha256 : HashFunction
  pub sha384 : HashFunction
  pub sha512 : HashFunction
  pub holds_sha256 : Sha256 → List ℕ → Type 0
  pub holds_sha384 : Sha384 → List ℕ → Type 0
  pub holds_sha512 : Sha512 → List ℕ → Type 0

-- it was started for this sealing, and has taken p, whichever encryption it is
abbrev pub HoldsSealing : Primitives → ContentSealer → Sealing → List ℕ → Type 0
HoldsSealing of (A128CbcHs256 x) s p = HoldsCbcHmac of.aes128 of.sha256 of.holds_sha256 x s p
HoldsSealing of (A192CbcHs384 x) s p = HoldsCbcHmac of.aes192 of.sha384 of.holds_sha384 x s p
HoldsSealing of (A256CbcHs512 x) s p = HoldsCbcHmac of.aes256 of.sha512 of.holds_sha512 x s p
HoldsSealing of (A128Gcm x) s p = HoldsGcmSealing of.aes128 x s p
HoldsSealing of (A192Gcm x) s p = HoldsGcmSealing of.aes192 x s p
HoldsSealing of (A256Gcm x) s p = HoldsGcmSealing of.aes256 x s p

pub sealing_keeps_pace : (of : Primitives) (x : ContentSealer) (s : Sealing) (p : List ℕ) → HoldsSealing of x s p → KeepsPace s p
sealing_keeps_pace of (A128CbcHs256 x) s p holds = holds.pace
sealing_keeps_pace of (A192CbcHs384 x) s p holds = holds.pace
sealing_keeps_pace of (A256CbcHs512 x) s p holds = holds.pace
sealing_keeps_pace of (A128Gcm x) s p holds = holds.pace
sealing_keeps_pace of (A192Gcm x) s p holds = holds.pace
sealing_keeps_pace of (A256Gcm x) s p holds = holds.pace

-- ---- the padding that an opening leaves (RFC 5652 section 6.3)

-- All octets behind the first n are the padding: each is their number. Under GCM there are none.
abbrev pub IsPaddingBehind : ℕ → List ℕ → List ℕ → Type 0
IsPaddingBehind n old new = drop n new ≡ replicate (length old - n) (length old - n)
