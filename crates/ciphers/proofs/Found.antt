-- The search for an opening or a delivered key finds exactly the right one.
use Rattle.std.proofs.Common.{◌≡◌, ◌↔◌, ℕ, ◌==◌, ◌&&◌, ◌+◌, ◌*◌, ◌<◌, ◌≤◌, Bool, true, false, List, [], length, drop, slice_index, if◌then◌else◌, Option, Some, None, ◌⊎◌, inl, inr, refl, ◌∙◌, ap, arith}
use Rattle.std.specs.Bool.{Decides}
use Rattle.std.specs.Option.{IsSomeAnd}
use Rattle.std.proofs.lemmas.Bool.Decides.{Decides-eqb, Decides-and, Decides-not, Decides-ltb}
use Rattle.std.proofs.lemmas.Slice.Eq.{bytes_eq-Decides}
use Rattle.aes.specs.Block.{IsBlock, IsCipher}
use Rattle.aes.specs.Cipher.{encrypted_block}
use Rattle.aes.specs.InverseCipher.{inverse_cipher}
use Rattle.aes.specs.KeyExpansion.{key_expansion}
use Rattle.ciphers.specs.Algorithms.{ContentFamily, aes_cbc_hmac, aes_gcm, content_family}
use Rattle.ciphers.specs.Delivery.{Parameters, way_of, is_delivered_by, IsDelivered}
use Rattle.ciphers.specs.Openings.{delivered, is_longer, is_sealed_to, opening}
use Rattle.ciphers.specs.Sealing.{Sealing, IsTooLong, sealing_in, sealing, cek_len, iv_len_in, iv_len, Opens, IsOpening}
use Rattle.ciphers.proofs.Deliveries.{decided}
use Rattle.ciphers.specs.declared.content_alg.ContentAlg.{ContentAlg}
use Rattle.ciphers.specs.declared.key_alg.KeyAlg.{KeyAlg}
use Rattle.modes.specs.Cbc.{cbc}
use Rattle.modes.specs.Ctr.{counter_block}
use Rattle.modes.specs.Gcm.{gcm_ciphertext, pre_counter_block}
use Rattle.modes.proofs.Lemmas.{length-cbc, length-ctr}
use Rattle.octets.specs.Octets.{IsOctets}
use Rattle.octets.specs.Search.{found_within, FindsOctets}
use Rattle.octets.proofs.Lemmas.{IsOctets-drop}

-- An option has a value or none.
there_or_not : {X : Type 0} (o : Option X) → ((x : X) × (o ≡ Some x)) ⊎ (o ≡ None)
there_or_not (Some x) = inl (x, refl)
there_or_not None = inr refl

-- If P needs a condition, an option that is returned only under this condition has a value exactly if P holds.
where_so : {X P Q : Type 0} (b : Bool) (o : Option X) (x : X) → Decides b Q → (Q → (o ≡ Some x) ↔ P) → (P → Q)
    → ((if b then o else None) ≡ Some x) ↔ P
where_so true o x decided exactly needs = exactly (decided.0 refl)
where_so false o x decided exactly needs = (λ e. cc e, λ p. cc (decided.1 (needs p)))

-- If a test decides a property of octet strings with at most n octets, and at most one string has it, the search finds exactly this string.
module _ (finds : FindsOctets) (n : ℕ) (test : List ℕ → Bool) (P : List ℕ → Type 0)
    (holds : (x : List ℕ) → IsOctets x → test x ≡ true → P x)
    (passes : (x : List ℕ) → P x → IsOctets x × (length x ≤ n) × (test x ≡ true))
    (one : (x y : List ℕ) → P x → P y → x ≡ y) where
  -- A string that is found has the property.
  found_is : (x : List ℕ) → found_within n test ≡ Some x → P x
  found_is x h = let r = finds.found n test x h in holds x r.1 r.0

  -- A string with the property is found.
  is_found : (x : List ℕ) → P x → found_within n test ≡ Some x
  is_found x p = elim (there_or_not (found_within n test)) [
    | inl r ↦ r.1 ∙ ap (λ y. Some y) (one r.0 x (found_is r.0 r.1) p)
    | inr none ↦ let o = passes x p in cc (finds.nothing n test x none o.0 o.1, o.2)
  ]

  -- A string is found exactly if it has the property.
  finds_exactly : (x : List ℕ) → (found_within n test ≡ Some x) ↔ P x
  finds_exactly x = (found_is x, is_found x)

-- ---- content encryption keys

module _ (finds : FindsOctets) (alg : KeyAlg) (enc : ContentAlg) (key : List ℕ) (p : Parameters) (encrypted : List ℕ)
    (one : (x y : List ℕ) → IsDelivered alg enc key p encrypted x → IsDelivered alg enc key p encrypted y → x ≡ y) where
  -- The search returns exactly the key that is delivered.
  pub delivers : (cek : List ℕ) → (delivered alg enc key p encrypted ≡ Some cek) ↔ IsDelivered alg enc key p encrypted cek
  unfolding delivered
  delivers =
      finds_exactly finds (cek_len enc) (is_delivered_by (way_of alg key p) enc key p encrypted) (IsDelivered alg enc key p encrypted)
      (λ x octets h. record { octets = octets; is_delivered = h })
      (λ x d. (d.octets, omega (arith, ((decided enc key p encrypted (way_of alg key p) x).0 d.is_delivered).0), d.is_delivered))
      one

-- ---- contents

-- The test of a length decides whether it is above the greatest length allowed.
pub longer_decided : (n : ℕ) (longest : Option ℕ) → Decides (is_longer n longest) (IsSomeAnd longest (λ most. most < n))
longer_decided n None = (λ e. cc e, λ h. absurd h)
longer_decided n (Some most) = Decides-ltb most n

-- The test of a plaintext decides whether it is sealed to the ciphertext and the tag.
sealed_decided : (s : Sealing) (c tag p : List ℕ)
    → Decides (is_sealed_to s c tag p) ((IsTooLong s p → ⊥) × (((s.sealed p).ciphertext ≡ c) × ((s.sealed p).tag ≡ tag)))
sealed_decided s c tag p =
    Decides-and _ _ (Decides-not _ (longer_decided (length p) s.longest))
    (Decides-and _ _ (bytes_eq-Decides (s.sealed p).ciphertext c) (bytes_eq-Decides (s.sealed p).tag tag))

-- In GCM a plaintext is as long as its ciphertext.
under_gcm : (e : List ℕ → List ℕ) (iv p c : List ℕ) → gcm_ciphertext e iv p ≡ c → length p ≤ length c
unfolding gcm_ciphertext
under_gcm e iv p c text = omega (arith, length-ctr e (counter_block (pre_counter_block iv) 1) [] [] p, ap length text)

module _ (cipher : (nk : ℕ) (k : List ℕ) → ((i : ℕ) → slice_index k i < 256)
    → IsCipher (encrypted_block nk k) (inverse_cipher (nk + 6) (key_expansion nk k))) where
  -- In CBC a plaintext is shorter than its ciphertext.
  under_cbc : (nk n : ℕ) (cek iv p c : List ℕ) → IsOctets cek → IsOctets iv → length iv ≡ 16 → IsOctets p
      → cbc (encrypted_block nk (drop n cek)) iv p ≡ c → length p ≤ length c
  under_cbc nk n cek iv p c key start sixteen octets text =
      let block : IsBlock iv = record { sixteen = sixteen; octets = start } in
      omega (arith, length-cbc _ _ (cipher nk (drop n cek) (IsOctets-drop n cek key)) iv block p octets, ap length text)

  -- An opening is no longer than its ciphertext.
  no_longer : (family : ContentFamily) (cek iv aad c tag p : List ℕ) → IsOctets cek → IsOctets iv → length iv ≡ iv_len_in family
      → Opens (sealing_in family cek iv aad) c tag p → length p ≤ length c
  no_longer (aes_cbc_hmac nk f) cek iv aad c tag p key start fits o = under_cbc nk (4 * nk) cek iv p c key start fits o.octets o.ciphertext
  no_longer (aes_gcm nk) cek iv aad c tag p key start fits o = under_gcm (encrypted_block nk cek) iv p c o.ciphertext

  module _ (finds : FindsOctets) (alg : ContentAlg) (cek iv aad c tag : List ℕ) (key : IsOctets cek) (start : IsOctets iv)
      (one : (x y : List ℕ) → IsOpening alg cek iv aad c tag x → IsOpening alg cek iv aad c tag y → x ≡ y) where
    -- If the key and the IV have the right lengths, the search finds exactly the opening.
    opens_where_fit : (length cek ≡ cek_len alg) × (length iv ≡ iv_len alg) → (p : List ℕ)
        → (found_within (length c) (is_sealed_to (sealing alg cek iv aad) c tag) ≡ Some p) ↔ IsOpening alg cek iv aad c tag p
    unfolding sealing
    opens_where_fit (cek_fits, iv_fits) =
        let decided = sealed_decided (sealing alg cek iv aad) c tag in
        finds_exactly finds (length c) (is_sealed_to (sealing alg cek iv aad) c tag) (IsOpening alg cek iv aad c tag)
        (λ x octets h. let r = (decided x).0 h in
        record { cek_fits = cek_fits; iv_fits = iv_fits; opens = record { octets = octets; short = r.0; ciphertext = r.1.0; is_tag = r.1.1 } })
        (λ x o. (
          o.opens.octets,
          no_longer (content_family alg) cek iv aad c tag x key start iv_fits o.opens,
          (decided x).1 (o.opens.short, (o.opens.ciphertext, o.opens.is_tag)),
        ))
        one

    -- The function `opening` returns exactly the opening.
    pub opens : (p : List ℕ) → (opening alg cek iv aad c tag ≡ Some p) ↔ IsOpening alg cek iv aad c tag p
    unfolding opening
    opens p =
        where_so (length cek == cek_len alg && length iv == iv_len alg) _ p
        (Decides-and _ _ (Decides-eqb (length cek) (cek_len alg)) (Decides-eqb (length iv) (iv_len alg)))
        (λ fit. opens_where_fit fit p) (λ o. (o.cek_fits, o.iv_fits))
