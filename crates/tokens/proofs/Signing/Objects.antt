-- The signing that keys and a template settle, and the object that it makes of every payload.
use Rattle.std.proofs.Common.{◌≡◌, ◌≤◌, lit≤, ℕ, ◌&&◌, nat_le, Bool, true, List, [], ◌∷◌, length, map, Ok, refl, sym, ap, ◌∙◌, subst, arith}
use Rattle.std.proofs.lemmas.Bool.{and_parts, and_from, le-leb}
use Rattle.std.proofs.lemmas.List.{length-map}
use Rattle.std.specs.List.{AllByRecursion, list_all}
use Rattle.serde_json.specs.Data.{Members, object, depth}
use Rattle.octets.specs.declared.refusal.Refusal.TheVariants.{KeyDoesNotFit, Limit, NotCompact}
use Rattle.octets.specs.Outcomes.{needs}
use Rattle.octets.specs.Plan.{OutputTexts}
use Rattle.octets.proofs.Lemmas.{meaning_of_text, steps, passed, same_answer}
use Rattle.tokens.proofs.AlgorithmCases.{no_management}
use Rattle.keys.specs.Algorithms.{signature_name}
use Rattle.keys.specs.Json.{json_value, member_numbers_are_whole}
use Rattle.keys.specs.JsonTexts.{AreJsonMembers}
use Rattle.keys.specs.Keys.{OctetKey}
use Rattle.keys.specs.Limits.{limits, are_few}
use Rattle.keys.proofs.Lemmas.{numbers_whole, reads_json}
use Rattle.objects.specs.Headers.{joint_header, string_there, has_no_crit}
use Rattle.objects.specs.Jws as jws
use Rattle.objects.specs.Jws.{JwsParts, SignatureParts, Signature, SignedObject, DecodedSignature, HeadedSignature, decoded_part, headed_signature, headers_have_no_crit, signatures_of, signed_object, built, signature_parts_of, jws_text}
use Rattle.objects.specs.Code.Making.{made_object, IsBuilt}
use Rattle.objects.specs.Texts.{each, handed_out, depth_of_each}
use Rattle.objects.proofs.Lemmas.{all_passed, all_both, as_many}
use Rattle.tokens.specs.Signatures.{signature_of}
use Rattle.tokens.specs.Signing.{Signer, Signing, signer_by, may_sign, compact_has_room, settle_signing, read_signing, protected_by, signed, written_of}
use Rattle.tokens.specs.Code.SigningInputs.{unsigned_by, unsigned_object, unsigned_part_by, unsigned_signature}
use Rattle.tokens.specs.Template.{SignatureTemplate, template_of, header_text, is_shallow}
use Rattle.tokens.proofs.WrittenHeaders.Texts.{ReadsBack, read_back, stands, shallow_enough}
use Rattle.tokens.proofs.Each.{each_gives, each_made, all_pass}
use Rattle.tokens.proofs.Signing.Templates.{IsTemplate, is_template, IsSettled, settled_signer}

-- ---- the signing that is settled

-- The protected header of the signer reads back. The joint header is valid and names the algorithm, and the key may sign with it.
pub record Signs (header : Members) (s : Signer) : Type 0 where
  pub settled : IsSettled header s
  pub back : ReadsBack s.protected
  pub may : may_sign s ≡ true

-- the signers are those of the keys, in order
pub record IsSigning (compact : Bool) (keys : List OctetKey) (s : Signing) : Type 0 where
  pub template : SignatureTemplate
  pub by_keys : each (signer_by template) keys ≡ Ok s.signers
  pub signs : AllByRecursion (Signs s.header) s.signers
  pub json : AreJsonMembers s.header
  pub plain : has_no_crit s.header ≡ true
  pub shallow : is_shallow limits s.header ≡ true
  pub alone : compact_has_room compact s ≡ true

-- A settled signer signs, if its protected header is shallow enough and its key may sign.
may_and_shallow : (header : Members) (s : Signer) → IsSettled header s → (may_sign s ≡ true) × (is_shallow limits s.protected ≡ true) → Signs header s
may_and_shallow header s is tests = record { settled = is; back = read_back s.protected is.json (stands limits s.protected (lit≤ tt) tests.1); may = tests.0 }

pub is_signing : (compact : Bool) (keys : List OctetKey) (text : List ℕ) (s : Signing) → read_signing limits compact keys text ≡ Ok s → IsSigning compact keys s
unfolding read_signing settle_signing
is_signing compact keys text s h =
    let value = steps (json_value text) _ s h in
    let template = steps (template_of value.0) _ s value.2 in
    let t : SignatureTemplate = template.0 in
    let signers = steps (each (signer_by t) keys) _ s template.2 in
    let fit = steps (needs (list_all may_sign signers.0) KeyDoesNotFit) _ s signers.2 in
    let shallow = steps (needs (list_all (λ s. is_shallow limits s.protected) signers.0 && is_shallow limits t.per_signature) Limit) _ s fit.2 in
    let alone = steps (needs (compact_has_room compact (record { signers = signers.0; header = t.per_signature })) NotCompact) _ s shallow.2 in
    let is : IsTemplate t = is_template value.0 t (reads_json text value.0 value.1).0 template.1 in
    let both = and_parts (list_all (λ s. is_shallow limits s.protected) signers.0) (is_shallow limits t.per_signature) (passed _ Limit shallow.0 shallow.1) in
    let may : AllByRecursion (λ s. may_sign s ≡ true) signers.0 = all_passed may_sign signers.0 (passed _ KeyDoesNotFit fit.0 fit.1) in
    let few : AllByRecursion (λ s. is_shallow limits s.protected ≡ true) signers.0 = all_passed (λ s. is_shallow limits s.protected) signers.0 both.0 in
    let tests : AllByRecursion (λ s. (may_sign s ≡ true) × (is_shallow limits s.protected ≡ true)) signers.0 = all_both (λ s a b. (a, b)) signers.0 may few in
    let settled : AllByRecursion (IsSettled t.per_signature) signers.0 =
    each_gives (signer_by t) (λ key s made. settled_signer t key s is made) keys signers.0 signers.1 in
    subst (IsSigning compact keys) (same_answer (record { signers = signers.0; header = t.per_signature }) s alone.2)
    (record {
      template = t;
      by_keys = signers.1;
      signs = all_both (may_and_shallow t.per_signature) signers.0 settled tests;
      json = is.header_json;
      plain = is.say.header_plain;
      shallow = both.1;
      alone = passed _ NotCompact alone.0 alone.1;
    })

-- ---- the object

module _ (header : Members) (octets : Signer → List ℕ) where
  -- a signature with these octets: its parts, these with the octets and with the members of the protected header, and the whole
  abbrev part_of : Signer → SignatureParts
  part_of s = record { protected = protected_by s; header = header; signature = octets s }

  abbrev decoded_of : Signer → DecodedSignature
  decoded_of s = record { octets = header_text s.protected; parts = part_of s }

  abbrev headed_of : Signer → HeadedSignature
  headed_of s = record { members = s.protected; parts = part_of s }

  abbrev signature_made : Signer → Signature
  signature_made s = record {
    protected = protected_by s;
    protected_members = s.protected;
    header = header;
    signature = octets s;
    alg = signature_name s.alg;
  }

  -- The signature of a signer is decoded to these parts.
  decodes : (s : Signer) → Signs header s → decoded_part (part_of s) ≡ Ok (decoded_of s)
  unfolding decoded_part
  decodes s is = rw (meaning_of_text (header_text s.protected) is.back.octets) refl

  reads : (s : Signer) → Signs header s → headed_signature (decoded_of s) ≡ Ok (headed_of s)
  unfolding headed_signature
  reads s is = rw is.back.members refl

  makes : (s : Signer) → Signs header s → jws.signature_by limits.management (headed_of s) ≡ Ok (signature_made s)
  unfolding jws.signature_by joint_header string_there
  makes s is = rw (is.settled.disjoint, is.settled.alg, no_management s.alg) refl

-- The signatures of the signers, with any octets, are built to an object.
built_is : (compact : Bool) (keys : List OctetKey) (s : Signing) (payload : List ℕ) (octets : Signer → List ℕ) → IsSigning compact keys s
    → nat_le 1 (length s.signers) ≡ true → are_few limits (length s.signers) ≡ true
    → (let p : JwsParts = record { payload = payload; signatures = map (part_of s.header octets) s.signers } in built limits p)
    ≡ (let o : SignedObject = record { payload = payload; signatures = map (signature_made s.header octets) s.signers } in Ok o)
unfolding built signed_object signatures_of
built_is compact keys s payload octets is some few =
    let given : Signer → SignatureParts = part_of s.header octets in
    let long : length (map given s.signers) ≡ length s.signers = length-map s.signers given in
    let n : ℕ = depth_of_each (length (map given s.signers)) in
    let shallow : list_all (λ p. nat_le (depth (object p.header)) n) (map given s.signers) ≡ true =
    all_pass (λ p. nat_le (depth (object p.header)) n) given
    (λ x h. shallow_enough (depth (object s.header)) (length (map given s.signers)) (stands limits s.header (lit≤ tt) is.shallow)) s.signers is.signs in
    let whole : list_all (λ p. member_numbers_are_whole p.header) (map given s.signers) ≡ true =
    all_pass (λ p. member_numbers_are_whole p.header) given (λ x h. numbers_whole (object s.header) is.json) s.signers is.signs in
    let some_parts : nat_le 1 (length (map given s.signers)) ≡ true = ap (nat_le 1) long ∙ some in
    let few_parts : are_few limits (length (map given s.signers)) ≡ true = ap (λ k. are_few limits k) long ∙ few in
    let decoded = each_made decoded_part given (decoded_of s.header octets) (decodes s.header octets) s.signers is.signs in
    let headed = each_made headed_signature (decoded_of s.header octets) (headed_of s.header octets) (reads s.header octets) s.signers is.signs in
    let made = each_made (jws.signature_by limits.management) (headed_of s.header octets) (signature_made s.header octets)
    (makes s.header octets) s.signers is.signs in
    let plain : list_all headers_have_no_crit (map (headed_of s.header octets) s.signers) ≡ true =
    all_pass headers_have_no_crit (headed_of s.header octets)
    (λ x h. and_from (has_no_crit x.protected) (has_no_crit s.header) h.settled.plain is.plain) s.signers is.signs in
    rw (shallow, whole, some_parts, few_parts, decoded, headed, made, plain) refl

abbrev octets_by : List ℕ → Signer → List ℕ
octets_by payload s = signature_of s.alg s.key.octets (protected_by s) payload

abbrev pub made_by : Members → List ℕ → Signer → Signature
made_by header payload = signature_made header (octets_by payload)

abbrev pub object_by : Signing → List ℕ → SignedObject
object_by s payload = record { payload = payload; signatures = map (made_by s.header payload) s.signers }

-- Signing makes the object of the signers' signatures.
pub signed_is : (compact : Bool) (keys : List OctetKey) (s : Signing) (payload : List ℕ) → IsSigning compact keys s → nat_le 1 (length s.signers) ≡ true
    → are_few limits (length s.signers) ≡ true
    → signed limits s payload ≡ Ok (object_by s payload)
unfolding signed
signed_is compact keys s payload = built_is compact keys s payload (octets_by payload)

-- Without a payload and with empty signatures it makes the object of what is known before the payload.
pub unsigned_is : (compact : Bool) (keys : List OctetKey) (text : List ℕ) (s : Signing) → read_signing limits compact keys text ≡ Ok s → 1 ≤ length keys
    → length keys ≤ limits.keys
    → unsigned_by limits s ≡ Ok (unsigned_object s)
unfolding unsigned_by
unsigned_is compact keys text s h some few =
    let is = is_signing compact keys text s h in
    let long : length s.signers ≡ length keys = as_many (signer_by is.template) keys s.signers is.by_keys in
    built_is compact keys s [] (λ x. []) is (le-leb 1 (length s.signers) (omega (arith, long, some)))
    (le-leb (length s.signers) limits.recipients (omega (arith, long, few)))

unsigned_parts : (header : Members) (signers : List Signer) → map signature_parts_of (map (unsigned_signature header) signers) ≡ map (unsigned_part_by header) signers
unsigned_parts header [] = refl
unsigned_parts header (s ∷ signers) = ap (λ l. unsigned_part_by header s ∷ l) (unsigned_parts header signers)

-- So these signatures are built to themselves.
pub is_built : (s : Signing) (signatures : List Signature) → unsigned_by limits s ≡ Ok (unsigned_object s)
    → signatures ≡ map (unsigned_signature s.header) s.signers → IsBuilt limits (made_object [] signatures)
unfolding unsigned_by
is_built s signatures made are =
    let parts_with : List SignatureParts → JwsParts = λ l. record { payload = []; signatures = l } in
    subst (λ l. IsBuilt limits (made_object [] l)) (sym are) (ap (λ l. built limits (parts_with l)) (unsigned_parts s.header s.signers) ∙ made)

-- ---- the texts of the object

-- If an object has a text, this text and the detached payload are written.
pub is_written : (compact detach : Bool) (o : SignedObject) (text : List ℕ) → jws_text compact detach o ≡ Ok text
    → written_of compact detach o ≡ Ok (record { text = text; content = handed_out detach o.payload })
is_written compact detach o text h = rw h refl

-- The texts that are written are the object's text and, if it is detached, its payload.
pub written_is : (compact detach : Bool) (o : SignedObject) (texts : OutputTexts) → written_of compact detach o ≡ Ok texts
    → (jws_text compact detach o ≡ Ok texts.text) × (texts.content ≡ handed_out detach o.payload)
written_is compact detach o texts h =
    let text = steps (jws_text compact detach o) (λ text. Ok (record { text = text; content = handed_out detach o.payload })) texts h in
    let same = same_answer (record { text = text.0; content = handed_out detach o.payload }) texts text.2 in
    (text.1 ∙ ap (λ (t : OutputTexts). Ok t.text) same, ap (λ (t : OutputTexts). t.content) (sym same))
