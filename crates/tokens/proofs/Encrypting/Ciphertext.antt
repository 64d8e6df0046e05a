-- An encrypted plaintext fills the frame of its object.
use Rattle.std.proofs.Common.{◌≡◌, Bool, true, false, List, ℕ, [], ◌∷◌, ◌++◌, Result, Ok, Err, refl, sym, ap, ◌∙◌, subst}
use Rattle.octets.specs.declared.refusal.Refusal.{Refusal}
use Rattle.octets.specs.Base64url.{base64url, whole_groups}
use Rattle.octets.specs.Outcomes.{◌>>=◌}
use Rattle.octets.specs.Encoding.{encoding}
use Rattle.octets.specs.Plan.{OutputTexts, Plan, Begins, Grows}
use Rattle.octets.specs.Code.Streams.{as_it_is}
use Rattle.octets.proofs.Lemmas.{steps, same_answer}
use Rattle.ciphers.specs.Sealing.{Sealed, Sealing}
use Rattle.keys.specs.Limits.{limits}
use Rattle.objects.specs.Code.Frames.{filled}
use Rattle.objects.specs.Jwe.{built}
use Rattle.tokens.specs.Choosing.{EncryptionPlan}
use Rattle.tokens.specs.Encrypting.{sealing_by, sealed_by, parts_by, written_of, encrypted, plan_by, ciphertext_fixed}
use Rattle.tokens.specs.Code.Framing.{IsFraming, FillsFrame, all_in}
use Rattle.tokens.specs.Code.SealedTexts.{sealed_plan, IsUnsealed}
use Rattle.tokens.proofs.Beginnings.{groups_grow, text_grows}
use Rattle.tokens.proofs.Encrypting.Objects.{sealed_is}
use Rattle.tokens.proofs.Encrypting.Growth.{more_fixed, fixed_begins}

-- ---- the growth of the ciphertext

-- If the text of the ciphertext grows, so does the text of the sealed plaintext.
sealed_grows : (plan : Plan (List ℕ)) (e : EncryptionPlan) (random : List ℕ) → ((x y : List ℕ) → Begins x y → Begins (plan.fixed x) (plan.fixed y))
    → ((x y w : List ℕ) → Begins x y → plan.whole y ≡ Ok w → Begins (plan.fixed x) w) → Grows (sealed_plan plan (sealing_by e random))
sealed_grows plan e random fixed whole = record {
  more = λ p q. fixed _ _ (more_fixed e random p q);
  whole = λ p q w octets h.
      let made = steps (sealed_by (sealing_by e random) (p ++ q)) (λ sealed. plan.whole sealed.ciphertext) w h in
      let is = sealed_is (sealing_by e random) (p ++ q) made.0 made.1 in
      whole _ made.0.ciphertext w (subst (λ (x : Sealed). Begins (ciphertext_fixed e random p) x.ciphertext) is.1 (fixed_begins e random p q is.0)) made.2;
}

pub encoded_grows : (e : EncryptionPlan) (random : List ℕ) → Grows (sealed_plan encoding (sealing_by e random))
encoded_grows e random =
    sealed_grows encoding e random groups_grow (λ x y w b h. subst (Begins (base64url (whole_groups x))) (same_answer (base64url y) w h) (text_grows x y b))

pub plain_grows : (e : EncryptionPlan) (random : List ℕ) → Grows (sealed_plan as_it_is (sealing_by e random))
plain_grows e random = sealed_grows as_it_is e random (λ x y b. b) (λ x y w b h. subst (Begins x) (same_answer y w h) b)

-- ---- a plaintext that is refused

-- A text that never refuses a ciphertext is refused only if sealing is.
pub sealed_refused : (plan : Plan (List ℕ)) (s : Sealing) (p : List ℕ) (r : Refusal) → ((c : List ℕ) (e : Refusal) → plan.whole c ≡ Err e → ⊥)
    → (sealed_plan plan s).whole p ≡ Err r → sealed_by s p ≡ Err r
sealed_refused plan s p r never h = by_answer (sealed_by s p) refl
  where
    by_answer : (a : Result Sealed Refusal) → sealed_by s p ≡ a → a ≡ Err r
    by_answer (Ok sealed) is = absurd (never sealed.ciphertext r (ap (λ a. a >>= λ sealed. plan.whole sealed.ciphertext) (sym is) ∙ h))
    by_answer (Err e) is =
        let both = ap (λ a. a >>= λ sealed. plan.whole sealed.ciphertext) (sym is) ∙ h in
        let same : e ≡ r = cc both in
        ap Err same

-- If sealing is refused, so is the whole plan.
pub encryption_refused : (compact detach : Bool) (e : EncryptionPlan) (random p : List ℕ) (r : Refusal) → sealed_by (sealing_by e random) p ≡ Err r
    → (plan_by limits compact detach e random).whole p ≡ Err r
unfolding encrypted
encryption_refused compact detach e random p r h = ap (λ x. (x >>= λ s. built limits (parts_by e random s)) >>= written_of compact detach) h

-- ---- the texts of a sealed plaintext

-- the text of the tag
abbrev pub tag_of : Sealing → List ℕ → List (List ℕ)
tag_of s p = base64url (s.sealed p).tag ∷ []

module _ {S : Type 0} (is_sealing : S → Sealing → List ℕ → Type 0) (compact : Bool) (plan : Result (Plan OutputTexts) Refusal) (sealer : S)
    (texts : List (List ℕ)) where
  -- The ciphertext's text is written inside the texts.
  pub inside_framing : (u : IsUnsealed is_sealing compact false plan sealer texts)
      → IsFraming false texts (sealed_plan encoding (sealing_by u.encryption u.random)) (tag_of (sealing_by u.encryption u.random))
      (plan_by limits compact false u.encryption u.random)
  inside_framing u = record {
    grows = encoded_grows u.encryption u.random;
    places = λ p. u.places;
    whole = λ p text octets h.
        let s = sealing_by u.encryption u.random in
        let made = steps (sealed_by s p) (λ sealed. encoding.whole sealed.ciphertext) text h in
        u.whole p made.0 octets made.1
        ∙ ap (λ (x : Sealed). Ok (record { text = filled texts (base64url made.0.ciphertext ∷ base64url x.tag ∷ []); content = [] }))
        (sym (sealed_is s p made.0 made.1).1)
        ∙ ap (λ t. Ok (all_in false texts t (tag_of s p))) (same_answer (base64url made.0.ciphertext) text made.2);
    refused = λ p e h. encryption_refused compact false u.encryption u.random p e
        (sealed_refused encoding (sealing_by u.encryption u.random) p e (λ text r never. cc never) h);
    fixed = λ q. ap (λ t. record { text = t ++ base64url (whole_groups (ciphertext_fixed u.encryption u.random q)); content = [] }) (u.before refl);
  }

  -- The ciphertext is written next to the texts.
  pub beside_framing : (u : IsUnsealed is_sealing compact true plan sealer texts)
      → IsFraming true texts (sealed_plan as_it_is (sealing_by u.encryption u.random)) (tag_of (sealing_by u.encryption u.random))
      (plan_by limits compact true u.encryption u.random)
  beside_framing u = record {
    grows = plain_grows u.encryption u.random;
    places = λ p. u.places;
    whole = λ p text octets h.
        let s = sealing_by u.encryption u.random in
        let made = steps (sealed_by s p) (λ sealed. as_it_is.whole sealed.ciphertext) text h in
        u.whole p made.0 octets made.1
        ∙ ap (λ (x : Sealed). Ok (record { text = filled texts (base64url x.tag ∷ []); content = made.0.ciphertext })) (sym (sealed_is s p made.0 made.1).1)
        ∙ ap (λ t. Ok (all_in true texts t (tag_of s p))) (same_answer made.0.ciphertext text made.2);
    refused = λ p e h. encryption_refused compact true u.encryption u.random p e
        (sealed_refused as_it_is (sealing_by u.encryption u.random) p e (λ text r never. cc never) h);
    fixed = λ q. refl;
  }

  pub fills_inside : {X : Type 0} (is_fed : X → Sealing → List ℕ → Type 0) (transform : X) (given : List (List ℕ))
      (u : IsUnsealed is_sealing compact false plan sealer texts)
      → is_fed transform (sealing_by u.encryption u.random) [] → given ≡ texts
      → FillsFrame is_fed (sealed_plan encoding) (λ tag s p. (s.sealed p).tag ≡ tag) (λ tag values. values ≡ base64url tag ∷ []) false transform given
      (plan_by limits compact false u.encryption u.random)
  fills_inside is_fed transform given u fed same = record {
    job = sealing_by u.encryption u.random;
    values = tag_of (sealing_by u.encryption u.random);
    fed = fed;
    left = λ tag p is. ap (λ t. base64url t ∷ []) is;
    framing = subst (λ t. IsFraming false t (sealed_plan encoding (sealing_by u.encryption u.random)) (tag_of (sealing_by u.encryption u.random))
        (plan_by limits compact false u.encryption u.random)) (sym same) (inside_framing u);
  }

  pub fills_beside : {X : Type 0} (is_fed : X → Sealing → List ℕ → Type 0) (transform : X) (given : List (List ℕ))
      (u : IsUnsealed is_sealing compact true plan sealer texts)
      → is_fed transform (sealing_by u.encryption u.random) [] → given ≡ texts
      → FillsFrame is_fed (sealed_plan as_it_is) (λ tag s p. (s.sealed p).tag ≡ tag) (λ tag values. values ≡ base64url tag ∷ []) true transform given
      (plan_by limits compact true u.encryption u.random)
  fills_beside is_fed transform given u fed same = record {
    job = sealing_by u.encryption u.random;
    values = tag_of (sealing_by u.encryption u.random);
    fed = fed;
    left = λ tag p is. ap (λ t. base64url t ∷ []) is;
    framing = subst (λ t. IsFraming true t (sealed_plan as_it_is (sealing_by u.encryption u.random)) (tag_of (sealing_by u.encryption u.random))
        (plan_by limits compact true u.encryption u.random)) (sym same) (beside_framing u);
  }
