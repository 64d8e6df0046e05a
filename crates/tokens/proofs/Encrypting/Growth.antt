-- The plan of encryption grows with the plaintext.
use Rattle.std.proofs.Common.{◌≡◌, ℕ, zero, suc, Bool, true, false, List, [], ◌∷◌, ◌++◌, length, take, Option, Some, None, if◌then◌else◌, Ok, refl, sym, ◌∙◌, ap, subst, arith}
use Rattle.octets.specs.Base64url.{base64url, whole_groups}
use Rattle.octets.specs.Octets.{IsOctets}
use Rattle.octets.specs.Plan.{OutputTexts, Begins, BothGrow}
use Rattle.octets.proofs.Lemmas.{IsOctets-take, steps, same_answer, begins_behind}
use Rattle.ciphers.specs.Sealing.{Sealed, IsTooLong}
use Rattle.ciphers.proofs.Lemmas.{fixed_grows, ciphertext_grows}
use Rattle.keys.specs.Keys.{OctetKey, AreOctetKeys}
use Rattle.keys.specs.Limits.{limits, are_few}
use Rattle.objects.specs.Code.Frames.{filled, in_places, first_text}
use Rattle.tokens.specs.Code.SealedTexts.{frame_by}
use Rattle.tokens.specs.Choosing.{EncryptionPlan, read_encryption}
use Rattle.tokens.specs.Decrypting.{additional_authenticated_data}
use Rattle.tokens.specs.Encrypting.{random_len, cek_by, iv_by, header_by, sealing_by, encrypted, text_before, within_longest, written_of, ciphertext_fixed, text_fixed, plan_by, EncryptingGrows}
use Rattle.tokens.proofs.Beginnings.{empty_begins, groups_grow, frame_begins, handed_out_begins, BothBegin, both_grow_by_beginnings}
use Rattle.tokens.proofs.Encrypting.Deliver.{cek_by_is}
use Rattle.tokens.proofs.Encrypting.Sealing.{all_within}
use Rattle.tokens.proofs.Encrypting.Objects.{OctetLaws, few_recipient_keys, encrypting_steps, sealed_is, plan_is, settles}
use Rattle.tokens.proofs.Encrypting.SoundLimits.{these_are_sound}
use Rattle.tokens.proofs.Encrypting.Frames.{has_frame, frame, text_before_is, whole_is}

-- ---- the fixed part of the ciphertext

-- The first octets grow with the plaintext.
take_grows : (n : ℕ) (p q : List ℕ) → Begins (take n p) (take n (p ++ q))
take_grows zero p q = record { rest = []; continues = refl }
take_grows (suc n) [] q = record { rest = take (suc n) q; continues = refl }
take_grows (suc n) (x ∷ p) q = let more = take_grows n p q in record { rest = more.rest; continues = ap (λ l. x ∷ l) more.continues }

-- The part within the longest plaintext grows with the plaintext.
within_grows : (longest : Option ℕ) (p q : List ℕ) → Begins (within_longest longest p) (within_longest longest (p ++ q))
within_grows None p q = record { rest = q; continues = refl }
within_grows (Some most) p q = take_grows most p q

-- The fixed part of the ciphertext grows with the plaintext.
pub more_fixed : (e : EncryptionPlan) (random p q : List ℕ) → Begins (ciphertext_fixed e random p) (ciphertext_fixed e random (p ++ q))
more_fixed e random p q =
    let s = sealing_by e random in
    let front : List ℕ = within_longest s.longest p in
    let more = within_grows s.longest p q in
    subst (λ l. Begins (s.fixed front) (s.fixed l)) (sym more.continues)
    (fixed_grows e.encryption (cek_by e random) (iv_by e random)
    (additional_authenticated_data (base64url (header_by e random)) e.aad) front more.rest)

-- The fixed part begins the ciphertext, if the plaintext is not too long.
pub fixed_begins : (e : EncryptionPlan) (random p q : List ℕ) → (IsTooLong (sealing_by e random) (p ++ q) → ⊥)
    → Begins (ciphertext_fixed e random p) ((sealing_by e random).sealed (p ++ q)).ciphertext
fixed_begins e random p q short =
    let s = sealing_by e random in
    subst (λ l. Begins (s.fixed l) (s.sealed (p ++ q)).ciphertext) (sym (all_within s.longest p q short))
    (ciphertext_grows e.encryption (cek_by e random) (iv_by e random) (additional_authenticated_data (base64url (header_by e random)) e.aad) p q)

-- ---- the text

-- The fixed part of the text grows with the fixed part of the ciphertext.
text_goes_on : (compact detach : Bool) (e : EncryptionPlan) (random x y : List ℕ) → Begins x y
    → Begins (text_fixed limits compact detach e random x) (text_fixed limits compact detach e random y)
text_goes_on compact true e random x y b = empty_begins []
text_goes_on compact false e random x y b = begins_behind (text_before limits compact e random) _ _ (groups_grow x y b)

-- The fixed part of the text begins the frame that is filled with the ciphertext and the tag.
text_begins : (compact detach : Bool) (e : EncryptionPlan) (random : List ℕ) (texts : List (List ℕ)) (x : List ℕ) (s : Sealed)
    → (detach ≡ false → text_before limits compact e random ≡ first_text (Ok texts)) → length texts ≡ (if detach then 2 else 3) → Begins x s.ciphertext
    → Begins (text_fixed limits compact detach e random x) (filled texts (in_places detach s.ciphertext (s.tag ∷ [])))
text_begins compact true e random texts x s before places b = empty_begins _
text_begins compact false e random texts x s before places b =
    subst (λ t. Begins (t ++ base64url (whole_groups x)) (filled texts (in_places false s.ciphertext (s.tag ∷ [])))) (sym (before refl))
    (frame_begins texts x s.ciphertext (s.tag ∷ []) (omega (arith, places)) b)

-- ---- everything that is written

-- If exactly as many random octets are drawn as needed, the fixed part begins everything that is written.
written_begins : OctetLaws → (compact detach : Bool) (keys : List OctetKey) (template : List ℕ) (e : EncryptionPlan) (random p q : List ℕ) (texts : OutputTexts)
    → AreOctetKeys keys → IsOctets random
    → IsOctets (p ++ q) → length random ≡ random_len e → read_encryption limits compact keys template ≡ Ok e
    → (plan_by limits compact detach e random).whole (p ++ q) ≡ Ok texts
    → BothBegin ((plan_by limits compact detach e random).fixed p) texts
written_begins laws compact detach keys template e random p q texts key_octets random_octets octets long is h =
    let front : List ℕ = ciphertext_fixed e random p in
    let o = steps (encrypted limits e random (p ++ q)) (written_of compact detach) texts h in
    let made = encrypting_steps limits e random (p ++ q) o.0 o.1 in
    let s : Sealed = made.0 in
    let sealed = sealed_is (sealing_by e random) (p ++ q) s made.1 in
    let few : are_few limits (length e.recipient_keys) ≡ true = few_recipient_keys limits e random s o.0 made.2 in
    let cek = cek_by_is keys e random (settles limits these_are_sound compact keys template e is) key_octets random_octets long in
    let framed = has_frame compact keys template e random is few laws key_octets random_octets long detach in
    let begins : Begins front s.ciphertext = subst (λ (x : Sealed). Begins front x.ciphertext) sealed.1 (fixed_begins e random p q sealed.0) in
    let before = λ (inside : detach ≡ false). text_before_is compact keys template e random is few laws key_octets random_octets long framed.0
    (subst (λ d. frame_by limits compact d e random ≡ Ok framed.0) inside framed.1) in
    let whole = whole_is compact keys template e random is few laws key_octets random_octets long cek.octets cek.fits detach framed.0 framed.1
    (p ++ q) s octets made.1 in
    subst (BothBegin ((plan_by limits compact detach e random).fixed p)) (same_answer _ texts (sym whole ∙ h))
    (record {
      text = text_begins compact detach e random framed.0 front s before
          (frame compact keys template e random is few laws key_octets random_octets long detach framed.0 framed.1).places begins;
      content = handed_out_begins detach front s.ciphertext begins;
    })

-- Every plan that a template and keys settle grows.
pub encrypting_grows : OctetLaws → EncryptingGrows
encrypting_grows laws compact detach keys template random plan key_octets random_octets h =
    let is = plan_is limits compact detach keys template random plan h in
    let e : EncryptionPlan = is.0 in
    let drawn : List ℕ = take (random_len e) random in
    let drawn_octets : IsOctets drawn = IsOctets-take (random_len e) random random_octets in
    subst BothGrow is.3
    (both_grow_by_beginnings (plan_by limits compact detach e drawn)
    (λ p q. record { text = text_goes_on compact detach e drawn _ _ (more_fixed e drawn p q); content = handed_out_begins detach _ _ (more_fixed e drawn p q) })
    (λ p q texts octets h. written_begins laws compact detach keys template e drawn p q texts key_octets drawn_octets octets is.2 is.1 h))
