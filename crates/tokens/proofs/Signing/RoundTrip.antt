-- Every signed object is verified with each key alone that may verify.
use Rattle.std.proofs.Common.{◌≡◌, ℕ, nat_le, Bool, true, false, List, [], ◌∷◌, ◌++◌, length, map, is_some, Option, Ok, IsUtf8, refl, sym, ap, ◌∙◌, subst}
use Rattle.std.proofs.lemmas.Bool.{and_parts, and_from, or_left}
use Rattle.std.proofs.lemmas.List.{length-map}
use Rattle.std.proofs.lemmas.Slice.Eq.{bytes_eq-Decides}
use Rattle.std.specs.List.{AllByRecursion, list_any}
use Rattle.std.specs.Str.{bytes_eq}
use Rattle.serde_json.specs.Data.{Members}
use Rattle.octets.specs.Octets.{IsOctets}
use Rattle.octets.specs.Outcomes.{◌>>=◌}
use Rattle.octets.specs.Plan.{OutputTexts, Plan}
use Rattle.octets.proofs.Lemmas.{has_url_characters, steps, same_answer}
use Rattle.prf.specs.Hmac.{hmac}
use Rattle.keys.specs.declared.algorithm.SignatureAlg.{SignatureAlg}
use Rattle.keys.specs.declared.algorithm.Algorithm.TheVariants.{Signature as SignedWith}
use Rattle.keys.specs.declared.operation.Operation.TheVariants.{Sign, Verify}
use Rattle.keys.specs.Algorithms.{signature_alg_of}
use Rattle.keys.specs.JsonTexts.{AreJsonMembers}
use Rattle.keys.specs.Keys.{OctetKey, allows, fits}
use Rattle.keys.specs.Limits.{limits, are_few}
use Rattle.keys.proofs.Lemmas.{url_texts_are_json}
use Rattle.objects.specs.Jws.{SignatureParts, Signature, SignedObject, AreMembers, TextsSpellObjects, json_text, jws_compact_text, jws_of, jws_text}
use Rattle.objects.specs.Texts.{handed_in}
use Rattle.objects.proofs.Lemmas.{all_images, jws_is_built}
use Rattle.tokens.specs.Signatures.{signature_of}
use Rattle.tokens.specs.Signing.{Signer, Signing, signer_by, read_signing, protected_by, signature_by, parts_by, signed, written_of, plan_by, sig_plan}
use Rattle.tokens.specs.Template.{SignatureTemplate, header_text}
use Rattle.tokens.specs.Verifying.{may_verify, verifies, are_verified, verified_payload, verifying_by, SignedVerifies}
use Rattle.tokens.proofs.AlgorithmCases.{signature_named, signature_hash_law}
use Rattle.tokens.proofs.Beginnings.{handed_back}
use Rattle.tokens.proofs.Each.{some_passes}
use Rattle.tokens.proofs.Signing.Objects.{Signs, IsSigning, is_signing, made_by, object_by, signed_is, written_is}
use Rattle.tokens.proofs.Signing.Templates.{key_is}

-- ---- the object is the one that its text spells

-- A signature is octets.
pub signature_octets : (alg : SignatureAlg) (key protected payload : List ℕ) → IsOctets (signature_of alg key protected payload)
unfolding signature_of hmac
signature_octets alg key protected payload = (signature_hash_law alg).octets _

-- The members of a signature are well formed.
signature_members : (header : Members) (payload : List ℕ) → AreJsonMembers header → (s : Signer) → Signs header s
    → (let p = signature_by header payload s in IsUtf8 p.protected × (AreJsonMembers p.header × IsOctets p.signature))
signature_members header payload json s is =
    let url = has_url_characters (header_text s.protected) is.back.octets in
    ((url_texts_are_json (protected_by s) url).0, (json, signature_octets s.alg s.key.octets (protected_by s) payload))

-- The members of the object are well formed.
are_members : (s : Signing) (payload : List ℕ) → IsOctets payload → AreJsonMembers s.header → AllByRecursion (Signs s.header) s.signers
    → AreMembers (parts_by s payload)
are_members s payload octets json signs = record {
  payload = octets;
  signatures = all_images (λ (p : SignatureParts). IsUtf8 p.protected × (AreJsonMembers p.header × IsOctets p.signature)) (signature_by s.header payload)
      (signature_members s.header payload json) s.signers signs;
}

-- If an object is read from its JSON text and its compact text, it is read from its text in the form that was asked for.
form_is_read : (compact detach : Bool) (handed : Option (List ℕ)) (o : SignedObject) (text : List ℕ) → jws_of limits handed (json_text detach o) ≡ Ok o
    → ((text : List ℕ) → jws_compact_text detach o ≡ Ok text → jws_of limits handed text ≡ Ok o) → jws_text compact detach o ≡ Ok text
    → jws_of limits handed text ≡ Ok o
form_is_read true detach handed o text json compact h = compact text h
form_is_read false detach handed o text json compact h = ap (jws_of limits handed) (sym (same_answer (json_text detach o) text h)) ∙ json

-- The texts that are written are read as the object that signing makes.
texts_are_read : TextsSpellObjects → (compact detach : Bool) (keys : List OctetKey) (s : Signing) (payload : List ℕ) (texts : OutputTexts) → IsOctets payload
    → IsSigning compact keys s
    → (signed limits s payload >>= written_of compact detach) ≡ Ok texts → jws_of limits (handed_in detach texts.content) texts.text ≡ Ok (object_by s payload)
unfolding signed
texts_are_read spells compact detach keys s payload texts octets is h =
    let o = steps (signed limits s payload) (written_of compact detach) texts h in
    let built = jws_is_built limits (parts_by s payload) o.0 o.1 in
    let long : length (map (signature_by s.header payload) s.signers) ≡ length s.signers = length-map s.signers (signature_by s.header payload) in
    let some : nat_le 1 (length s.signers) ≡ true = ap (nat_le 1) (sym long) ∙ built.some in
    let few : are_few limits (length s.signers) ≡ true = ap (λ n. are_few limits n) (sym long) ∙ built.few in
    let spelled = spells limits (parts_by s payload) o.0 (are_members s payload octets is.json is.signs) o.1 detach in
    let written = written_is compact detach o.0 texts o.2 in
    let handed : handed_in detach texts.content ≡ handed_in detach o.0.payload = ap (handed_in detach) written.1 ∙ handed_back detach o.0.payload in
    ap (λ content. jws_of limits content texts.text) handed
    ∙ form_is_read compact detach (handed_in detach o.0.payload) o.0 texts.text spelled.0 spelled.1 written.0
    ∙ sym o.1
    ∙ signed_is compact keys s payload is some few

-- ---- the key verifies the object

-- a key that may verify, and the signature of its signer
module _ (template : SignatureTemplate) (header : Members) (key : OctetKey) (payload : List ℕ) (may : allows key Verify ≡ true) where
  -- The algorithm that the signature names is supported.
  supported : (s : Signer) → signer_by template key ≡ Ok s → Signs header s → is_some (signature_alg_of (made_by header payload s).alg) ≡ true
  supported s by is = rw (signature_named s.alg) refl

  -- The key fits the algorithm, since it signed with it.
  fits_alg : (s : Signer) → signer_by template key ≡ Ok s → Signs header s → fits key (SignedWith s.alg) ≡ true
  fits_alg s by is =
      ap (λ k. fits k (SignedWith s.alg)) (sym (key_is template key s by)) ∙ (and_parts (allows s.key Sign) (fits s.key (SignedWith s.alg)) is.may).1

  -- The signature and the key are a candidate pair.
  candidate : (s : Signer) → signer_by template key ≡ Ok s → Signs header s → may_verify (made_by header payload s) key ≡ true
  candidate s by is = rw (signature_named s.alg, may, fits_alg s by is) refl

  -- The key verifies the signature.
  verified : (s : Signer) → signer_by template key ≡ Ok s → Signs header s → verifies payload (made_by header payload s) key ≡ true
  verified s by is =
      let same : bytes_eq (signature_of s.alg s.key.octets (protected_by s) payload) (signature_of s.alg key.octets (protected_by s) payload) ≡ true =
      (bytes_eq-Decides _ _).1 (ap (λ (k : OctetKey). signature_of s.alg k.octets (protected_by s) payload) (key_is template key s by)) in
      rw (signature_named s.alg, may, fits_alg s by is, same) refl

-- The object is verified with this key alone, which returns the payload.
payload_verified : (compact all : Bool) (before : List OctetKey) (key : OctetKey) (after : List OctetKey) (s : Signing) (payload : List ℕ)
    → allows key Verify ≡ true
    → IsSigning compact (before ++ key ∷ after) s → verifying_by all true (key ∷ []) (object_by s payload) ≡ Ok payload
unfolding verifying_by verified_payload
payload_verified compact all before key after s payload may is =
    let t = is.template in
    let made = made_by s.header payload in
    let some : (test : Signature → Bool) → ((g : Signer) → signer_by t key ≡ Ok g → Signs s.header g → test (made g) ≡ true)
    → list_any test (map made s.signers) ≡ true =
    λ test holds. some_passes (signer_by t) made test key holds before after s.signers is.by_keys is.signs in
    let any = some (λ g. is_some (signature_alg_of g.alg)) (supported t s.header key payload may) in
    let candidates = some (λ g. list_any (may_verify g) (key ∷ [])) (λ g by signs. or_left _ false (candidate t s.header key payload may g by signs)) in
    let one = some (λ g. verifies payload g key) (verified t s.header key payload may) in
    let each = some (λ g. list_any (verifies payload g) (key ∷ [])) (λ g by signs. or_left _ false (verified t s.header key payload may g by signs)) in
    rw (any, candidates, by_all all one each) refl
  where
    by_all : (all : Bool) → list_any (λ g. verifies payload g key) (map (made_by s.header payload) s.signers) ≡ true
        → list_any (λ g. list_any (verifies payload g) (key ∷ [])) (map (made_by s.header payload) s.signers) ≡ true
        → are_verified all (key ∷ []) (object_by s payload) ≡ true
    by_all true one each = and_from _ true one refl
    by_all false one each = each

pub signed_verifies : TextsSpellObjects → SignedVerifies
unfolding sig_plan
signed_verifies spells compact detach keys template payload texts octets h =
    let plan = steps (sig_plan limits compact detach keys template) (λ plan. plan.whole payload) texts h in
    let s = steps (read_signing limits compact keys template) (λ s. Ok (plan_by limits compact detach s)) plan.0 plan.1 in
    let whole : (signed limits s.0 payload >>= written_of compact detach) ≡ Ok texts =
    ap (λ (p : Plan OutputTexts). p.whole payload) (same_answer (plan_by limits compact detach s.0) plan.0 s.2) ∙ plan.2 in
    let is : IsSigning compact keys s.0 = is_signing compact keys template s.0 s.1 in (
      object_by s.0 payload,
      (
        texts_are_read spells compact detach keys s.0 payload texts octets is whole,
        λ all before after key among may. payload_verified compact all before key after s.0 payload may (subst (λ keys. IsSigning compact keys s.0) among is),
      ),
    )
