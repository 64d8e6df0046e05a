-- The texts around the ciphertext and the tag of an encrypted object.
use Rattle.std.proofs.Common.{◌≡◌, ℕ, ◌≤◌, Bool, true, false, List, [], ◌∷◌, ◌++◌, length, map, Result, Ok, Err, refl, sym, ap, ◌∙◌, subst, arith, length-drop}
use Rattle.std.proofs.lemmas.Bool.{le-leb}
use Rattle.std.proofs.lemmas.Simd.{map-map}
use Rattle.octets.specs.declared.refusal.Refusal.{Refusal}
use Rattle.octets.specs.declared.refusal.Refusal.TheVariants.{NotCompact}
use Rattle.octets.specs.Base64url.{base64url}
use Rattle.octets.specs.Octets.{IsOctets}
use Rattle.octets.specs.Outcomes.{◌>>=◌}
use Rattle.octets.specs.Plan.{plan_from}
use Rattle.octets.proofs.Lemmas.{IsOctets-nil, first_or, IsOctets-drop}
use Rattle.ciphers.specs.Algorithms.{encryption_name}
use Rattle.ciphers.specs.Sealing.{Sealed, Sealing, IsTooLong, cek_len}
use Rattle.ciphers.proofs.Lemmas.{some_tag}
use Rattle.keys.specs.Keys.{OctetKey, AreOctetKeys}
use Rattle.keys.specs.Limits.{limits, are_few}
use Rattle.objects.specs.Code.Frames.{filled, in_places, first_text, jwe_frame, IsJweFrame}
use Rattle.objects.specs.Code.JweMaking.{IsBuilt}
use Rattle.objects.specs.Jwe.{RecipientParts, Recipient, JweParts, EncryptedObject, recipient_parts_of, parts_of, built, jwe_text}
use Rattle.objects.specs.Texts.{handed_out}
use Rattle.objects.specs.Code.Writing.{Written, all_texts}
use Rattle.objects.specs.Code.JweWriting.{jwe_written}
use Rattle.objects.proofs.Lemmas.{jwe_refused, is_jwe_frame}
use Rattle.tokens.specs.Choosing.{EncryptionPlan, is_alone, read_encryption}
use Rattle.tokens.specs.Decrypting.{additional_authenticated_data}
use Rattle.tokens.specs.Delivering.{drawn_for_all, Delivery}
use Rattle.tokens.specs.Encrypting.{cek_drawn, random_len, for_recipients, after_recipients, cek_by, iv_by, deliveries_by, header_by, sealing_by, sealed_by, parts_by, encrypted, text_before, written_of, plan_by, enc_plan}
use Rattle.tokens.specs.Code.SealedTexts.{IsUnsealed, unsealed, made_recipient, unsealed_by, frame_by}
use Rattle.tokens.proofs.Beginnings.{before_is}
use Rattle.tokens.proofs.Encrypting.Deliver.{after_long, delivery, deliveries_are, drawn_by_each}
use Rattle.tokens.proofs.Encrypting.Recipients.{OctetLaws, Writes, writes}
use Rattle.tokens.proofs.Encrypting.Objects.{object_by, built_is, sealed_is}
use Rattle.tokens.proofs.Encrypting.Texts.{has_text}
use Rattle.tokens.proofs.Encrypting.Plans.{plan_of_drawn}
use Rattle.tokens.proofs.Encrypting.SoundLimits.{these_are_sound}
use Rattle.tokens.proofs.Encrypting.Settle.{Settles, settles, stands_alone}

-- ---- the object without a ciphertext and a tag

-- the recipient of a delivery
abbrev made_of : EncryptionPlan → Delivery → Recipient
made_of e = made_recipient e.given (is_alone e.recipient_keys) (encryption_name e.encryption)

-- Its members are those that it is built of.
pub unsealed_parts : (e : EncryptionPlan) (random : List ℕ) → parts_of (unsealed_by e random) ≡ parts_by e random unsealed
unsealed_parts e random =
    let parts : JweParts = parts_by e random unsealed in
    ap (λ (rs : List RecipientParts). record parts { recipients = rs }) (map-map recipient_parts_of (made_of e) (deliveries_by e random))

-- It is the object that is made of these members.
unsealed_is : (e : EncryptionPlan) (random : List ℕ) → object_by e random unsealed ≡ unsealed_by e random
unsealed_is e random =
    let o : EncryptedObject = unsealed_by e random in
    let cek : List ℕ = cek_by e random in
    ap (λ (rs : List Recipient). record o { recipients = rs })
    (sym (ap (map (made_of e)) (deliveries_are e cek e.recipient_keys (for_recipients e random))
    ∙ map-map (made_of e) (delivery e cek) (drawn_by_each e random)))

-- If it is built of its members, its frame is the one that is settled.
pub unsealed_frame : (compact detach : Bool) (e : EncryptionPlan) (random : List ℕ) → IsBuilt limits (unsealed_by e random)
    → frame_by limits compact detach e random ≡ jwe_frame compact detach (unsealed_by e random)
unsealed_frame compact detach e random made =
    ap (λ r. r >>= jwe_frame compact detach) (ap (built limits) (sym (unsealed_parts e random)) ∙ made)

-- ---- what is known of its frame

-- keys and a template settle an encryption, and exactly as many octets are drawn as it needs
module _ (compact : Bool) (keys : List OctetKey) (template : List ℕ) (e : EncryptionPlan) (random : List ℕ)
    (is : read_encryption limits compact keys template ≡ Ok e) (few : are_few limits (length e.recipient_keys) ≡ true) (laws : OctetLaws)
    (key_octets : AreOctetKeys keys)
    (random_octets : IsOctets random) (long : length random ≡ random_len e) where
  by : Settles keys e
  by = settles limits these_are_sound compact keys template e is

  w : Writes e random
  w = writes laws keys e random by key_octets random_octets long

  -- The object without a ciphertext is the one that is built of its members.
  pub is_built : IsBuilt limits (unsealed_by e random)
  is_built = ap (built limits) (unsealed_parts e random) ∙ built_is limits refl keys e random unsealed by w few ∙ ap Ok (unsealed_is e random)

  -- The object without a ciphertext has a frame.
  pub has_frame : (detach : Bool) → (texts : List (List ℕ)) × (frame_by limits compact detach e random ≡ Ok texts)
  has_frame detach = by_written (jwe_written true compact detach (object_by e random unsealed)) refl
    where
      by_written : (r : Result Written Refusal) → jwe_written true compact detach (object_by e random unsealed) ≡ r
          → (texts : List (List ℕ)) × (frame_by limits compact detach e random ≡ Ok texts)
      by_written (Ok written) h = (
        all_texts written,
        ap (λ r. r >>= jwe_frame compact detach) (built_is limits refl keys e random unsealed by w few) ∙ ap (λ r. r >>= λ w. Ok (all_texts w)) h,
      )
      by_written (Err r) h =
          let text = has_text compact detach e random unsealed (stands_alone limits these_are_sound compact keys template e is) by.some in
          let both : Ok text.0 ≡ Err NotCompact = sym text.1 ∙ (jwe_refused true compact detach (object_by e random unsealed) r h).1 in
          cc both

  module _ (detach : Bool) (texts : List (List ℕ)) (framed : frame_by limits compact detach e random ≡ Ok texts) where
    -- The texts are the frame of the object.
    pub frame : IsJweFrame compact detach (object_by e random unsealed) texts
    frame =
        is_jwe_frame compact detach (object_by e random unsealed) texts
        (sym (ap (λ r. r >>= jwe_frame compact detach) (built_is limits refl keys e random unsealed by w few)) ∙ framed)

    -- Filled with a ciphertext and a tag, the texts are those that are written for the object of these.
    texts_are : (s : Sealed) → IsOctets s.ciphertext → IsOctets s.tag → 1 ≤ length s.tag
        → (built limits (parts_by e random s) >>= written_of compact detach)
        ≡ Ok (record { text = filled texts (in_places detach s.ciphertext (s.tag ∷ [])); content = handed_out detach s.ciphertext })
    texts_are s ciphertext tag some =
        ap (λ r. r >>= written_of compact detach) (built_is limits refl keys e random s by w few)
        ∙ ap (λ r. r >>= λ text. Ok (record { text = text; content = handed_out detach s.ciphertext }))
        (frame.filled s.ciphertext s.tag ciphertext tag (le-leb 1 (length s.tag) some))

  -- The text before every ciphertext is the first text of the frame.
  pub text_before_is : (texts : List (List ℕ)) → frame_by limits compact false e random ≡ Ok texts → text_before limits compact e random ≡ first_text (Ok texts)
  text_before_is texts framed =
      let round = frame false texts framed in
      before_is (λ octets. built limits (parts_by e random (record { ciphertext = octets; tag = octets })) >>= jwe_text compact false) texts
      (λ b. (b ∷ []) ∷ []) 1 round.places
      (λ b small.
      let octet : IsOctets (b ∷ []) = first_or b [] small IsOctets-nil in
      ap (λ r. r >>= jwe_text compact false) (built_is limits refl keys e random (record { ciphertext = b ∷ []; tag = b ∷ [] }) by w few)
      ∙ round.filled (b ∷ []) (b ∷ []) octet octet refl)

  -- ---- every plaintext

  module _ (cek : IsOctets (cek_by e random)) (cek_fits : length (cek_by e random) ≡ cek_len e.encryption) where
    sealed_octets : (p : List ℕ) → IsOctets p → (IsTooLong (sealing_by e random) p → ⊥)
        → IsOctets ((sealing_by e random).sealed p).ciphertext × IsOctets ((sealing_by e random).sealed p).tag
    sealed_octets p octets short =
        let later : List ℕ = after_recipients e random in
        let iv : IsOctets (iv_by e random) = IsOctets-drop (cek_drawn e) later (IsOctets-drop (drawn_for_all e.recipient_keys) random random_octets) in
        laws.opened e.encryption (cek_by e random) (iv_by e random)
        (additional_authenticated_data (base64url (header_by e random)) e.aad) _ _ p cek iv (record {
          cek_fits = cek_fits;
          iv_fits = length-drop (cek_drawn e) later ∙ omega (arith, after_long e random long);
          opens = record { octets = octets; short = short; ciphertext = refl; is_tag = refl };
        })

    -- Filled with the sealed plaintext, the texts are those that are written.
    pub whole_is : (detach : Bool) (texts : List (List ℕ)) → frame_by limits compact detach e random ≡ Ok texts → (p : List ℕ) (sealed : Sealed) → IsOctets p
        → sealed_by (sealing_by e random) p ≡ Ok sealed
        → (plan_by limits compact detach e random).whole p
        ≡ Ok (record { text = filled texts (in_places detach sealed.ciphertext (sealed.tag ∷ [])); content = handed_out detach sealed.ciphertext })
    unfolding encrypted
    whole_is detach texts framed p sealed octets h =
        let is_sealed = sealed_is (sealing_by e random) p sealed h in
        let both = sealed_octets p octets is_sealed.0 in
        let some : 1 ≤ length ((sealing_by e random).sealed p).tag =
        some_tag e.encryption (cek_by e random) (iv_by e random) (additional_authenticated_data (base64url (header_by e random)) e.aad) p in
        ap (λ r. (r >>= λ s. built limits (parts_by e random s)) >>= written_of compact detach) h
        ∙ subst (λ x. (built limits (parts_by e random x) >>= written_of compact detach)
        ≡ Ok (record { text = filled texts (in_places detach x.ciphertext (x.tag ∷ [])); content = handed_out detach x.ciphertext })) is_sealed.1
        (texts_are detach texts framed ((sealing_by e random).sealed p) both.0 both.1 some)

-- ---- before there is a plaintext

pub is_unsealed : {S : Type 0} (is_sealing : S → Sealing → List ℕ → Type 0) (compact detach : Bool) (keys : List OctetKey) (template : List ℕ)
    (e : EncryptionPlan) (random octets rest : List ℕ) (sealer : S) (texts : List (List ℕ))
    → read_encryption limits compact keys template ≡ Ok e → are_few limits (length e.recipient_keys) ≡ true → OctetLaws → AreOctetKeys keys → IsOctets random
    → length random ≡ random_len e → octets ≡ random ++ rest
    → is_sealing sealer (sealing_by e random) [] → frame_by limits compact detach e random ≡ Ok texts
    → IsOctets (cek_by e random) × (length (cek_by e random) ≡ cek_len e.encryption)
    → IsUnsealed is_sealing compact detach (plan_from (enc_plan limits compact detach keys template) octets) sealer texts
is_unsealed is_sealing compact detach keys template e random octets rest sealer texts is few laws key_octets random_octets long continues started framed cek =
    record {
      encryption = e;
      random = random;
      is = plan_of_drawn limits compact detach keys template e random octets rest is long continues;
      started = started;
      before = λ inside. text_before_is compact keys template e random is few laws key_octets random_octets long texts
          (subst (λ d. frame_by limits compact d e random ≡ Ok texts) inside framed);
      places = (frame compact keys template e random is few laws key_octets random_octets long detach texts framed).places;
      whole = whole_is compact keys template e random is few laws key_octets random_octets long cek.0 cek.1 detach texts framed;
    }
