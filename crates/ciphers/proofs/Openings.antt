-- Openings under the ciphers of both families, and the sealing that was started.
use Rattle.std.proofs.Common.{◌≡◌, ◌≢◌, ℕ, ◌-◌, ◌*◌, ◌/◌, ◌%◌, ◌≤◌, List, length, take, drop, replicate, [], refl, sym, ap, subst, ◌∙◌, arith, length-append, length-take, ⊎_elim, Option, Some, None, IfSome, IfNone}
use Rattle.std.proofs.lemmas.Bool.{cases_lt}
use Rattle.std.proofs.lemmas.List.{length-replicate, drop_all}
use Rattle.std.proofs.Math.Seq.{drop-append_seam}
use Rattle.octets.specs.Octets.{IsOctets}
use Rattle.aes.specs.Cipher.{encrypted_block}
use Rattle.ciphers.specs.Algorithms.{aes_cbc_hmac, aes_gcm, content_family}
use Rattle.ciphers.specs.Sealing.{Sealing, cbc_tag, cbc_hmac, gcm, cek_len, iv_len, sealing, sealing_in, Opens, IsOpening}
use Rattle.ciphers.specs.declared.content_alg.ContentAlg.{ContentAlg}
use Rattle.ciphers.specs.Code.Views.{HoldsGcmSealing, IsPaddingBehind, KeepsPace}
use Rattle.modes.specs.Cbc.{cbc, pad}
use Rattle.modes.specs.Ctr.{ctr}
use Rattle.modes.specs.Gcm.{gcm_ciphertext, gcm_tag, longest}
use Rattle.modes.specs.Code.Opening.{IsGcmOpening}
use Rattle.modes.specs.Code.Views as modes
use Rattle.modes.specs.declared.gcm.Gcm.{Gcm}
use Rattle.prf.specs.HashFunction.{HashFunction}
use Rattle.octets.proofs.Lemmas.{IsOctets-take}

-- ---- what is behind the plaintext

padding : (p old new : List ℕ) → length new ≡ length old → new ≡ pad p → IsPaddingBehind (length p) old new
unfolding pad
padding p old new same is =
    let k = 16 - length p % 16 in
    let is_k : k ≡ length old - length p = omega (arith, same, ap length is, length-append p (replicate k k), length-replicate k k) in
    ap (drop (length p)) is ∙ drop-append_seam p (replicate k k) ∙ ap (λ k. replicate k k) is_k

pub padding_behind : (P : ℕ → Type 0) (o : Option ℕ) (old new : List ℕ) → length new ≡ length old → IfSome o (λ n. n ≤ length old × P n)
    → IfSome o (λ n. new ≡ pad (take n new)) → IfSome o (λ n. IsPaddingBehind n old new)
padding_behind P None old new same within is = tt
padding_behind P (Some n) old new same within is =
    subst (λ k. IsPaddingBehind k old new) (length-take n new ∙ omega (arith, same, within.0)) (padding (take n new) old new same is)

pub nothing_behind : (o : Option ℕ) (old new : List ℕ) → length new ≡ length old → IfSome o (λ n. n ≡ length old) → IfSome o (λ n. IsPaddingBehind n old new)
nothing_behind None old new same whole = tt
nothing_behind (Some n) old new same whole =
    drop_all n new (omega (arith, same, whole)) ∙ ap (λ k. replicate k k) (let z : 0 ≡ length old - n = omega (arith, whole) in z)

-- ---- AES-CBC with HMAC

-- The sealing under a content encryption key is the one under its halves.
pub under_halves : (e : List ℕ → List ℕ) (f : HashFunction) (nk : ℕ) (cek mac_key key iv aad : List ℕ) (s : Sealing)
    → length cek ≡ 8 * nk → mac_key ≡ take (length cek / 2) cek → key ≡ drop (length cek / 2) cek → e ≡ encrypted_block nk key
    → s ≡ sealing_in (aes_cbc_hmac nk f) cek iv aad → s ≡ cbc_hmac e f mac_key iv aad
under_halves e f nk cek mac_key key iv aad s long front back is_e is =
    let half : 4 * nk ≡ length cek / 2 = omega (arith, long) in
    is
    ∙ ap (λ n. cbc_hmac (encrypted_block nk (drop n cek)) f (take n cek) iv aad) half
    ∙ ap (λ m. cbc_hmac (encrypted_block nk (drop (length cek / 2) cek)) f m iv aad) (sym front)
    ∙ ap (λ k. cbc_hmac (encrypted_block nk k) f mac_key iv aad) (sym back)
    ∙ ap (λ e. cbc_hmac e f mac_key iv aad) (sym is_e)

module _ (e : List ℕ → List ℕ) (f : HashFunction) (mac_key iv aad c tag : List ℕ) (s : Sealing) (is : s ≡ cbc_hmac e f mac_key iv aad) where
  as_cbc_hmac : (p : List ℕ) → Opens s c tag p → Opens (cbc_hmac e f mac_key iv aad) c tag p
  as_cbc_hmac p = subst (λ t. Opens t c tag p) is

  pub opens : (o : Option ℕ) (buf : List ℕ) → IsOctets buf
      → IfSome o (λ n. n ≤ length c × (cbc e iv (take n buf) ≡ c)) → tag ≡ cbc_tag f mac_key iv aad c
      → IfSome o (λ n. n ≤ length c × Opens s c tag (take n buf))
  opens None buf octets text right = tt
  opens (Some n) buf octets text right = (
    text.0,
    subst (λ t. Opens t c tag (take n buf)) (sym is) (record {
      octets = IsOctets-take n buf octets;
      short = λ long. long;
      ciphertext = text.1;
      is_tag = ap (cbc_tag f mac_key iv aad) text.1 ∙ sym right;
    }),
  )

  -- If a ciphertext and a tag open, the tag is the one that the code compares.
  pub right_tag : (p : List ℕ) → Opens s c tag p → tag ≡ cbc_tag f mac_key iv aad c
  right_tag p o = let k = as_cbc_hmac p o in sym (sym (ap (cbc_tag f mac_key iv aad) k.ciphertext) ∙ k.is_tag)

  pub stays : (o : Option ℕ) → IfNone o ((p : List ℕ) → IsOctets p → cbc e iv p ≢ c)
      → IfNone o ((p : List ℕ) → Opens s c tag p → ⊥)
  stays None none = λ p o. let k = as_cbc_hmac p o in none p k.octets k.ciphertext
  stays (Some n) none = tt

-- ---- AES-GCM

module _ (e : List ℕ → List ℕ) (iv aad c tag : List ℕ) where
  of_gcm : (p : List ℕ) → Opens (gcm e iv aad) c tag p → IsGcmOpening e iv aad c tag p
  of_gcm p o = record {
    octets = o.octets;
    short = ⊎_elim (λ long. absurd (o.short long)) (λ h. h) (cases_lt longest (length p));
    is_ciphertext = o.ciphertext;
    is_tag = sym (ap (gcm_tag e iv aad) o.ciphertext) ∙ o.is_tag;
  }

-- ---- under a key and an IV of the right lengths

module _ (alg : ContentAlg) (cek iv aad c tag : List ℕ) (cek_fits : length cek ≡ cek_len alg) (iv_fits : length iv ≡ iv_len alg) where
  pub is_opening : (o : Option ℕ) (buf : List ℕ) → IfSome o (λ n. n ≤ length c × Opens (sealing alg cek iv aad) c tag (take n buf))
      → IfSome o (λ n. n ≤ length c × IsOpening alg cek iv aad c tag (take n buf))
  is_opening None buf h = tt
  is_opening (Some n) buf h = (h.0, record { cek_fits = cek_fits; iv_fits = iv_fits; opens = h.1 })

pub is_no_opening : (alg : ContentAlg) (cek iv aad c tag : List ℕ) (o : Option ℕ)
    → IfNone o ((p : List ℕ) → Opens (sealing alg cek iv aad) c tag p → ⊥) → IfNone o ((p : List ℕ) → IsOpening alg cek iv aad c tag p → ⊥)
is_no_opening alg cek iv aad c tag None none = λ p opening. none p opening.opens
is_no_opening alg cek iv aad c tag (Some n) none = tt

-- No plaintext opens by an algorithm in GCM if none opens under its cipher.
pub nothing_in_gcm : (alg : ContentAlg) (nk : ℕ) (e : List ℕ → List ℕ) (cek iv other aad c tag : List ℕ) (o : Option ℕ)
    → content_family alg ≡ aes_gcm nk → e ≡ encrypted_block nk cek → other ≡ iv
    → IfNone o ((p : List ℕ) → IsGcmOpening e other aad c tag p → ⊥) → IfNone o ((p : List ℕ) → IsOpening alg cek iv aad c tag p → ⊥)
unfolding sealing
nothing_in_gcm alg nk e cek iv other aad c tag None family is_e same none = λ p opening.
    none p (of_gcm e other aad c tag p
    (subst (λ t. Opens t c tag p) (ap (λ k. sealing_in k cek iv aad) family ∙ ap (λ e. gcm e iv aad) (sym is_e) ∙ ap (λ i. gcm e i aad) (sym same)) opening.opens))
nothing_in_gcm alg nk e cek iv other aad c tag (Some n) family is_e same none = tt

-- ---- the sealing that was started

pub gcm_begins : {B : Type 0} (encrypted : B → List ℕ → List ℕ) (x : Gcm B) (e : List ℕ → List ℕ) (iv other aad : List ℕ) (s : Sealing)
    → s ≡ gcm e iv aad → other ≡ iv → modes.HoldsGcm encrypted x e other aad [] → HoldsGcmSealing encrypted x s []
unfolding gcm_ciphertext ctr
gcm_begins encrypted x e iv other aad s is same k = record {
  e = e;
  iv = iv;
  aad = aad;
  is_sealing = is;
  gcm = subst (λ i. modes.HoldsGcm encrypted x e i aad []) same k;
  whole = refl;
  pace = subst (λ t. KeepsPace t []) (sym is) (record { within = omega arith; nearly = omega arith });
}
