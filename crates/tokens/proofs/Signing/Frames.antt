-- The texts around the payload and the signatures of a signed object, and the part of them that may be written.
use Rattle.std.proofs.Common.{◌≡◌, ℕ, Bool, true, false, List, [], ◌∷◌, length, map, codes, Result, Ok, Err, refl, sym, ap, ap₂, ◌∙◌, append_assoc}
use Rattle.std.proofs.lemmas.List.{length-map}
use Rattle.std.specs.List.{AllByRecursion}
use Rattle.serde_json.specs.Data.{Members}
use Rattle.octets.specs.declared.refusal.Refusal.{Refusal}
use Rattle.octets.specs.declared.refusal.Refusal.TheVariants.{Memory, NotCompact}
use Rattle.octets.specs.Base64url.{base64url}
use Rattle.octets.specs.Octets.{IsOctets}
use Rattle.octets.specs.Outcomes.{◌>>=◌}
use Rattle.octets.specs.Code.Results.{is_memory}
use Rattle.octets.specs.Plan.{OutputTexts, planned}
use Rattle.prf.specs.Hmac.{hmac}
use Rattle.keys.specs.Keys.{OctetKey}
use Rattle.keys.specs.Limits.{limits}
use Rattle.objects.specs.Code.Frames.{filled, in_places, first_text, jws_frame, signed_with, IsJwsFrame}
use Rattle.objects.specs.Jws.{Signature, signature_parts_of, SignatureParts, SignedObject, JwsParts, built, jws_text}
use Rattle.objects.specs.Texts.{handed_out}
use Rattle.objects.specs.Code.Writing.{Written, all_texts}
use Rattle.objects.specs.Code.JwsWriting.{jws_written}
use Rattle.objects.proofs.Lemmas.{signature_spelled, parts_spelled, spelled, jws_is_built, object_keeps, jws_refused}
use Rattle.keys.specs.Algorithms.{signature_hash}
use Rattle.tokens.specs.Signatures.{signature_of}
use Rattle.tokens.specs.Signing.{Signer, Signing, protected_by, signature_by, signed, text_before, written_of, plan_by, read_signing, sig_plan}
use Rattle.tokens.specs.Code.SigningInputs.{signature_text, start_of, unsigned_protected, unsigned_part_by, unsigned_by}
use Rattle.octets.proofs.Lemmas.{IsOctets-nil, first_or}
use Rattle.tokens.proofs.Beginnings.{before_is}
use Rattle.tokens.proofs.Signing.Alike.{with_all, put_part, built_alike, refused_alike}
use Rattle.tokens.proofs.Signing.Objects.{is_written}
use Rattle.tokens.proofs.Signing.RoundTrip.{signature_octets}

-- ---- the octets of the signatures

abbrev pub octets_by : List ℕ → Signer → List ℕ
octets_by payload s = signature_of s.alg s.key.octets (protected_by s) payload

all_octets : (payload : List ℕ) (signers : List Signer) → AllByRecursion IsOctets (map (octets_by payload) signers)
all_octets payload [] = tt
all_octets payload (s ∷ signers) = (signature_octets s.alg s.key.octets (protected_by s) payload, all_octets payload signers)

text_is : (payload : List ℕ) (s : Signer) → signature_text (base64url payload) (start_of s) ≡ base64url (octets_by payload s)
unfolding signature_of
text_is payload s = ap (λ t. base64url (hmac (signature_hash s.alg) s.key.octets t)) (append_assoc (protected_by s) (codes ".") (base64url payload))

pub texts_are : (payload : List ℕ) (signers : List Signer)
    → map (signature_text (base64url payload)) (map start_of signers) ≡ map base64url (map (octets_by payload) signers)
texts_are payload [] = refl
texts_are payload (s ∷ signers) = ap₂ (λ t ts. t ∷ ts) (text_is payload s) (texts_are payload signers)

-- ---- the object

parts_alike : (header : Members) (payload : List ℕ) (signers : List Signer)
    → map (signature_by header payload) signers ≡ with_all put_part (map (unsigned_part_by header) signers) (map (octets_by payload) signers)
parts_alike header payload [] = refl
parts_alike header payload (s ∷ signers) = ap (λ l. signature_by header payload s ∷ l) (parts_alike header payload signers)

-- The signed object is the object without a payload, with the payload and the signatures inserted.
signed_alike : (s : Signing) (payload : List ℕ) → signed limits s payload
    ≡ (unsigned_by limits s >>= λ o. Ok (signed_with o payload (map (octets_by payload) s.signers)))
unfolding signed unsigned_by
signed_alike s payload =
    ap (λ l. built limits (record { payload = payload; signatures = l })) (parts_alike s.header payload s.signers)
    ∙ built_alike limits [] payload (map (unsigned_part_by s.header) s.signers) (map (octets_by payload) s.signers)

own_texts : (ss : List Signature) → unsigned_protected ss ≡ map (λ (x : SignatureParts). x.protected) (map signature_spelled (map signature_parts_of ss))
own_texts [] = refl
own_texts (s ∷ ss) = ap (λ l. s.protected ∷ l) (own_texts ss)

given_texts : (header : Members) (signers : List Signer)
    → map (λ (x : SignatureParts). x.protected) (let p : JwsParts = record { payload = []; signatures = map (unsigned_part_by header) signers } in
    parts_spelled p).signatures ≡ map protected_by signers
given_texts header [] = refl
given_texts header (s ∷ signers) = ap (λ l. protected_by s ∷ l) (given_texts header signers)

-- The signatures of the object without a payload have the texts of the signers' protected headers.
pub unsigned_are : (s : Signing) (o : SignedObject) → unsigned_by limits s ≡ Ok o → unsigned_protected o.signatures ≡ map protected_by s.signers
unfolding unsigned_by
unsigned_are s o made =
    let parts : JwsParts = record { payload = []; signatures = map (unsigned_part_by s.header) s.signers } in
    let kept : spelled o ≡ parts_spelled parts = object_keeps limits parts o (jws_is_built limits parts o made) in
    own_texts o.signatures ∙ ap (λ (t : JwsParts). map (λ (x : SignatureParts). x.protected) t.signatures) kept ∙ given_texts s.header s.signers

pub unsigned_count : (s : Signing) (o : SignedObject) → unsigned_by limits s ≡ Ok o → length o.signatures ≡ length s.signers
unsigned_count s o made = sym (length-map o.signatures (λ x. x.protected)) ∙ ap length (unsigned_are s o made) ∙ length-map s.signers protected_by

-- ---- refusals

pub object_refused : (compact detach : Bool) (s : Signing) (payload : List ℕ) (e : Refusal) → unsigned_by limits s ≡ Err e
    → (plan_by limits compact detach s).whole payload ≡ Err e
object_refused compact detach s payload e h =
    ap (λ r. r >>= written_of compact detach) (signed_alike s payload ∙ ap (λ r. r >>= λ o. Ok (signed_with o payload (map (octets_by payload) s.signers))) h)

signed_is_with : (s : Signing) (o : SignedObject) (payload : List ℕ) → unsigned_by limits s ≡ Ok o
    → signed limits s payload ≡ Ok (signed_with o payload (map (octets_by payload) s.signers))
signed_is_with s o payload made = signed_alike s payload ∙ ap (λ r. r >>= λ o. Ok (signed_with o payload (map (octets_by payload) s.signers))) made

pub text_refused : (compact detach : Bool) (s : Signing) (o : SignedObject) (payload : List ℕ) → unsigned_by limits s ≡ Ok o
    → jws_text compact detach o ≡ Err NotCompact
    → (plan_by limits compact detach s).whole payload ≡ Err NotCompact
text_refused compact detach s o payload made h =
    let with_all_put : SignedObject = signed_with o payload (map (octets_by payload) s.signers) in
    ap (λ r. r >>= written_of compact detach) (signed_is_with s o payload made)
    ∙ ap (λ r. r >>= λ text. Ok (record { text = text; content = handed_out detach payload }))
    (refused_alike compact detach o payload (map (octets_by payload) s.signers) h)

-- ---- what is written

module _ (compact detach : Bool) (s : Signing) (o : SignedObject) (texts : List (List ℕ)) (made : unsigned_by limits s ≡ Ok o)
    (frame : IsJwsFrame compact detach o texts) where
  object_text : (payload : List ℕ) → IsOctets payload
      → jws_text compact detach (signed_with o payload (map (octets_by payload) s.signers))
      ≡ Ok (filled texts (in_places detach payload (map (octets_by payload) s.signers)))
  object_text payload octets =
      frame.filled payload (map (octets_by payload) s.signers) octets (all_octets payload s.signers)
      (length-map s.signers (octets_by payload) ∙ sym (unsigned_count s o made))

  -- Filled with the payload and the signatures, the texts are those that are written.
  pub whole_is : (payload : List ℕ) → IsOctets payload
      → (plan_by limits compact detach s).whole payload ≡ Ok
      (record { text = filled texts (in_places detach payload (map (octets_by payload) s.signers)); content = handed_out detach payload })
  whole_is payload octets =
      ap (λ r. r >>= written_of compact detach) (signed_is_with s o payload made)
      ∙ is_written compact detach (signed_with o payload (map (octets_by payload) s.signers)) _ (object_text payload octets)

-- The text before the payload is the first text of the frame.
pub text_before_is : (compact : Bool) (s : Signing) (o : SignedObject) (texts : List (List ℕ)) → unsigned_by limits s ≡ Ok o → IsJwsFrame compact false o texts
    → text_before limits compact s ≡ first_text (Ok texts)
text_before_is compact s o texts made frame =
    before_is (λ payload. signed limits s payload >>= jws_text compact false) texts (λ b. map (octets_by (b ∷ [])) s.signers) (length o.signatures) frame.places
    (λ b small. ap (λ r. r >>= jws_text compact false) (signed_is_with s o (b ∷ []) made)
    ∙ object_text compact false s o texts made frame (b ∷ []) (first_or b [] small IsOctets-nil))

-- If texts are written, the object has a frame.
pub has_frame : (compact detach : Bool) (s : Signing) (payload : List ℕ) (written : OutputTexts) → (plan_by limits compact detach s).whole payload ≡ Ok written
    → (o : SignedObject) × (texts : List (List ℕ)) × (unsigned_by limits s ≡ Ok o) × (jws_frame compact detach o ≡ Ok texts)
has_frame compact detach s payload written h = by_object (unsigned_by limits s) refl
  where
    by_texts : (o : SignedObject) (r : Result Written Refusal) → unsigned_by limits s ≡ Ok o → jws_written true compact detach o ≡ r
        → (o : SignedObject) × (texts : List (List ℕ)) × (unsigned_by limits s ≡ Ok o) × (jws_frame compact detach o ≡ Ok texts)
    by_texts o (Ok w) made is = (o, all_texts w, made, ap (λ r. r >>= λ w. Ok (all_texts w)) is)
    by_texts o (Err e) made is = cc (sym h ∙ text_refused compact detach s o payload made (jws_refused true compact detach o e is).1)

    by_object : (r : Result SignedObject Refusal) → unsigned_by limits s ≡ r → (o : SignedObject) × (texts : List (List ℕ)) × (unsigned_by limits s ≡ Ok o)
        × (jws_frame compact detach o ≡ Ok texts)
    by_object (Ok o) made = by_texts o (jws_written true compact detach o) made refl
    by_object (Err e) made = cc (sym h ∙ object_refused compact detach s payload e made)

-- ---- what may be written

pub by_signing : (compact detach : Bool) (keys : List OctetKey) (template : List ℕ) (s : Signing) → read_signing limits compact keys template ≡ Ok s
    → sig_plan limits compact detach keys template ≡ Ok (plan_by limits compact detach s)
unfolding sig_plan
by_signing compact detach keys template s h = ap (λ r. r >>= λ s. Ok (plan_by limits compact detach s)) h

pub signing_refused : (compact detach : Bool) (keys : List OctetKey) (template payload : List ℕ) (e : Refusal)
    → read_signing limits compact keys template ≡ Err e
    → planned (sig_plan limits compact detach keys template) payload ≡ Err e
unfolding sig_plan
signing_refused compact detach keys template payload e h = ap (λ r. planned (r >>= λ s. Ok (plan_by limits compact detach s)) payload) h

-- ---- causes

-- A refusal that is not of the kind Memory is not Memory.
pub memory_apart : (e : Refusal) → is_memory e ≡ false → e ≡ Memory → ⊥
memory_apart e h is = let both : true ≡ false = sym (ap is_memory is) ∙ h in cc both
