-- The delivery of content encryption keys, in the way of the code.
use Rattle.std.proofs.Common.{◌≡◌, ◌≤◌, ℕ, ◌%◌, true, List, [], length, refl, sym, ap, ap₂, ◌∙◌, subst, Option, Some, None, IfSome, IfNone, arith}
use Rattle.std.specs.Bool.{Decides}
use Rattle.std.proofs.lemmas.Bool.Decides.{Decides-eqb, Decides-and}
use Rattle.std.proofs.lemmas.Slice.Eq.{bytes_eq-Decides}
use Rattle.ciphers.specs.Delivery.{Parameters, Way, directly, by_wrap, by_gcm, encrypted_by, tag_by, agrees_by, is_delivered_by, Delivers}
use Rattle.ciphers.specs.Code.Salted.{Salted}
use Rattle.ciphers.specs.KeyWrap.{IsUnwrapping}
use Rattle.ciphers.specs.Sealing.{cek_len}
use Rattle.ciphers.specs.declared.content_alg.ContentAlg.{ContentAlg}
use Rattle.ciphers.proofs.Rows.{content_row}
use Rattle.modes.specs.Ctr.{ctr}
use Rattle.modes.proofs.Lemmas.{length-gcm_ciphertext}
use Rattle.modes.specs.Gcm.{gcm_ciphertext, gcm_tag}
use Rattle.modes.specs.Code.Opening.{IsGcmOpening}
use Rattle.octets.specs.Octets.{IsOctets}

-- A key that was salted is the key.
pub is_key : {s : Salted} {key p2s : List ℕ} → s ≡ record { key = key; p2s = p2s } → s.key ≡ key
is_key is = ap (λ s. s.key) is

-- The GCM ciphertext of no octets is empty.
pub none_encrypted : (e : List ℕ → List ℕ) (iv : List ℕ) → gcm_ciphertext e iv [] ≡ []
unfolding gcm_ciphertext ctr
none_encrypted e iv = refl

-- Equal octets have equal tags.
pub same_tag : (e : List ℕ → List ℕ) (iv other cek copy : List ℕ) → iv ≡ other → cek ≡ copy
    → gcm_tag e iv [] (gcm_ciphertext e iv cek) ≡ gcm_tag e other [] (gcm_ciphertext e other copy)
same_tag e iv other cek copy a b = ap₂ (λ i k. gcm_tag e i [] (gcm_ciphertext e i k)) a b

-- Equal octets have the same opening.
pub same_opening : (e : List ℕ → List ℕ) (iv other c copy tag p q : List ℕ) → iv ≡ other → c ≡ copy → p ≡ q → IsGcmOpening e iv [] c tag p
    → IsGcmOpening e other [] copy tag q
same_opening e iv other c copy tag p q a b d o =
    subst (λ x. IsGcmOpening e other [] copy tag x) d (subst (λ x. IsGcmOpening e other [] x tag p) b (subst (λ x. IsGcmOpening e x [] c tag p) a o))

-- An opening is as long as its ciphertext.
pub opening_long : (e : List ℕ → List ℕ) (iv c tag p : List ℕ) → IsGcmOpening e iv [] c tag p → length p ≡ length c
opening_long e iv c tag p o = sym (length-gcm_ciphertext e iv p) ∙ ap length o.is_ciphertext

module _ (enc : ContentAlg) (key : List ℕ) (p : Parameters) (encrypted : List ℕ) where
  -- The test of a content encryption key decides three facts: it has the right length, it is encrypted to the received octets, and it
  -- agrees.
  pub decided : (way : Way) (cek : List ℕ) → Decides (is_delivered_by way enc key p encrypted cek)
      ((length cek ≡ cek_len enc) × ((encrypted_by way p cek ≡ encrypted) × (agrees_by way key p cek ≡ true)))
  decided way cek =
      Decides-and _ _ (Decides-eqb (length cek) (cek_len enc)) (Decides-and _ _ (bytes_eq-Decides (encrypted_by way p cek) encrypted) (λ h. h, λ h. h))

  -- If a fact holds in a known way, it holds in an equal way.
  pub by_way : (P : (List ℕ → Type 0) → Type 0) (way known : Way) → known ≡ way → P (Delivers known enc key p encrypted) → P (Delivers way enc key p encrypted)
  by_way P way known is h = subst (λ w. P (Delivers w enc key p encrypted)) is h

  -- ---- a key that is used directly

  pub direct_delivers : (o : Option (List ℕ)) → IsOctets key
      → IfSome o (λ cek. (cek ≡ key) × (length key ≡ cek_len enc) × (encrypted ≡ [])) → IfSome o (Delivers directly enc key p encrypted)
  direct_delivers None octets h = tt
  direct_delivers (Some cek) octets h = record {
    octets = subst IsOctets (sym h.0) octets;
    is_delivered = (decided directly cek).1 (ap length h.0 ∙ h.1, (sym h.2, (bytes_eq-Decides cek key).1 h.0));
  }

  pub direct_nothing : (o : Option (List ℕ)) → IfNone o (length key ≡ cek_len enc → encrypted ≡ [] → ⊥)
      → IfNone o ((cek : List ℕ) → Delivers directly enc key p encrypted cek → ⊥)
  direct_nothing None h = λ cek d.
      let r = (decided directly cek).0 d.is_delivered in
      h (sym (ap length ((bytes_eq-Decides cek key).0 r.1.1)) ∙ r.0) (sym r.1.0)
  direct_nothing (Some cek) h = tt

  -- ---- a key that is unwrapped

  module _ (e : List ℕ → List ℕ) where
    pub unwrapped_delivers : (o : Option (List ℕ)) → IfSome o (λ cek. (length cek ≡ cek_len enc) × IsUnwrapping e encrypted cek)
        → IfSome o (Delivers (by_wrap e) enc key p encrypted)
    unwrapped_delivers None h = tt
    unwrapped_delivers (Some cek) h = record {
      octets = h.1.key_data.octets;
      is_delivered = (decided (by_wrap e) cek).1 (h.0, (h.1.wraps, refl));
    }

    pub unwrapping : (cek : List ℕ) → Delivers (by_wrap e) enc key p encrypted cek → IsUnwrapping e encrypted cek
    unwrapping cek d =
        let r = (decided (by_wrap e) cek).0 d.is_delivered in
        record {
          key_data = record {
            octets = d.octets;
            parts = ap (λ n. n % 8) r.0 ∙ (content_row enc).parts;
            two = subst (λ n. 16 ≤ n) (sym r.0) (content_row enc).two;
          };
          wraps = r.1.0;
        }

    pub unwrapped_nothing : (o : Option (List ℕ)) → IfNone o ((cek : List ℕ) → length cek ≡ cek_len enc → IsUnwrapping e encrypted cek → ⊥)
        → IfNone o ((cek : List ℕ) → Delivers (by_wrap e) enc key p encrypted cek → ⊥)
    unwrapped_nothing None none = λ cek d. none cek ((decided (by_wrap e) cek).0 d.is_delivered).0 (unwrapping cek d)
    unwrapped_nothing (Some cek) none = tt

    -- ---- a key that is opened in GCM

    agreed : (cek : List ℕ) → Decides (agrees_by (by_gcm e) key p cek) ((length p.iv ≡ 12) × (tag_by (by_gcm e) p cek ≡ p.tag))
    agreed cek = Decides-and _ _ (Decides-eqb (length p.iv) 12) (bytes_eq-Decides (tag_by (by_gcm e) p cek) p.tag)

    pub opened_delivers : (o : Option (List ℕ)) → IfSome o (λ cek. (length cek ≡ cek_len enc) × (length p.iv ≡ 12) × IsGcmOpening e p.iv [] encrypted p.tag cek)
        → IfSome o (Delivers (by_gcm e) enc key p encrypted)
    opened_delivers None h = tt
    opened_delivers (Some cek) h = record {
      octets = h.2.octets;
      is_delivered = (decided (by_gcm e) cek).1 (h.0, (h.2.is_ciphertext, (agreed cek).1 (h.1, ap (gcm_tag e p.iv []) h.2.is_ciphertext ∙ h.2.is_tag)));
    }

    pub gcm_opening : (cek : List ℕ) → Delivers (by_gcm e) enc key p encrypted cek → (length p.iv ≡ 12) × IsGcmOpening e p.iv [] encrypted p.tag cek
    gcm_opening cek d =
        let r = (decided (by_gcm e) cek).0 d.is_delivered in
        let agree = (agreed cek).0 r.1.1 in (
          agree.0,
          record {
            octets = d.octets;
            short = omega (arith, r.0, (content_row enc).most);
            is_ciphertext = r.1.0;
            is_tag = sym (ap (gcm_tag e p.iv []) r.1.0) ∙ agree.1;
          },
        )

    pub opened_nothing : (o : Option (List ℕ)) → IfNone o
        ((cek : List ℕ) → length cek ≡ cek_len enc → length p.iv ≡ 12 → IsGcmOpening e p.iv [] encrypted p.tag cek → ⊥)
        → IfNone o ((cek : List ℕ) → Delivers (by_gcm e) enc key p encrypted cek → ⊥)
    opened_nothing None none = λ cek d. let o = gcm_opening cek d in none cek ((decided (by_gcm e) cek).0 d.is_delivered).0 o.0 o.1
    opened_nothing (Some cek) none = tt
