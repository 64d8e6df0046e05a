-- JWS objects (RFC 7515): their compact texts (section 7.1) and their JSON texts, general and flattened (section 7.2).
use Rattle.std.specs.Prelude.{◌≡◌, ℕ, ◌&&◌, Bool, true, false, not, List, [], ◌∷◌, length, map, codes, nat_le, is_some, is_none, if◌then◌else◌, Option, Some, None, Result, Ok}
use Rattle.std.specs.List.{AllByRecursion, list_all}
use Rattle.std.specs.Str.{IsUtf8}
use Rattle.serde_json.specs.Data.{Data, Items, no_items, item, Members, no_members, string, array, object, depth}
use Rattle.serde_json.specs.Find.{get}
use Rattle.serde_json.specs.Written.{compact_text}
use Rattle.octets.specs.declared.refusal.Refusal.{Refusal}
use Rattle.octets.specs.declared.refusal.Refusal.TheVariants.{Json, Number, Form, Unsupported, Limit, NotCompact}
use Rattle.octets.specs.Outcomes.{◌>>=◌, needs}
use Rattle.octets.specs.Octets.{IsOctets}
use Rattle.octets.specs.Base64url.{base64url, decoded}
use Rattle.octets.specs.LineEnds.{without_line_end}
use Rattle.ciphers.specs.declared.key_alg.KeyAlg.{KeyAlg}
use Rattle.keys.specs.Json.{json_value, member_numbers_are_whole}
use Rattle.keys.specs.JsonTexts.{AreJsonMembers}
use Rattle.keys.specs.Limits.{Limits, are_few}
use Rattle.objects.specs.Headers.{header_at, protected_members, joint_header, string_there, has_no_crit}
use Rattle.objects.specs.KeyManagement.{key_management}
use Rattle.objects.specs.Texts.{each, each_item, is_json_form, three_parts, text_at, required_text, content_by, content_text, handed_in, AreOctetsHandedIn, between_dots, kept, object_list, has_text, has_members, depth_of_each}
use Rattle.objects.specs.Values.{Entries, present, objects, text_there, header_there, content_there}

-- ---- the members of an object (RFC 7515 section 7.2.1)

-- the text of the protected header, as it was received, the unprotected header, and the octets of the signature
pub record SignatureParts : Type 0 where
  pub protected : List ℕ
  pub header : Members
  pub signature : List ℕ

pub record JwsParts : Type 0 where
  pub payload : List ℕ
  pub signatures : List SignatureParts

-- ---- the members of a text (RFC 7515 section 5.2, step 1, and section 7)

-- The same records have the members of a text. Then `payload` and `signature` are base64url texts, and not yet octets.

-- the members of a signature; `signature` must be there
unfoldable pub encoded_signature : Data → Result SignatureParts Refusal
encoded_signature value = do
  protected ← text_at (codes "protected") value
  header ← header_at (codes "header") value
  signature ← required_text (codes "signature") value
  Ok (record { protected = protected; header = header; signature = signature })

-- the object has no members of a signature, other than empty headers
unfoldable pub no_signature_at : Data → Result (Unit {0}) Refusal
no_signature_at value = do
  protected ← text_at (codes "protected") value
  header ← header_at (codes "header") value
  needs (not (has_text protected) && (not (has_members header) && is_none (get (codes "signature") value))) Form

-- The object itself if it is flattened (section 7.2.2), or the items of its list if it is general (section 7.2.1). Next to a list it may
-- have no members of a signature.
abbrev pub signatures_by : Data → Option Data → Result Items Refusal
signatures_by value None = Ok (item value no_items)
signatures_by value (Some list) = do
  alone ← no_signature_at value
  object_list list

unfoldable pub signature_objects : Data → Result Items Refusal
signature_objects value = signatures_by value (get (codes "signatures") value)

unfoldable pub encoded_in_json : Option (List ℕ) → Data → Result JwsParts Refusal
encoded_in_json detached value = do
  payload ← content_text detached (codes "payload") value
  objects ← signature_objects value
  signatures ← each_item encoded_signature objects
  Ok (record { payload = payload; signatures = signatures })

-- exactly three parts with dots between them (section 7.1)
unfoldable pub encoded_in_compact : Option (List ℕ) → List ℕ → Result JwsParts Refusal
encoded_in_compact detached text = do
  parts ← three_parts text
  payload ← content_by detached parts.1
  Ok (record { payload = payload; signatures = record { protected = parts.0; header = no_members; signature = parts.2 } ∷ [] })

-- The members of a JSON text, or of a compact text with or without a line end. The payload may have been handed in.
unfoldable pub encoded_jws : Option (List ℕ) → List ℕ → Result JwsParts Refusal
encoded_jws detached text = if is_json_form text then (json_value text >>= encoded_in_json detached) else encoded_in_compact detached (without_line_end text)

-- ---- the object (RFC 7515 section 3)

-- A signature: its members, the members of its protected header, and the `alg` of its joint header (section 4.1.1).
pub record Signature : Type 0 where
  pub protected : List ℕ
  pub protected_members : Members
  pub header : Members
  pub signature : List ℕ
  pub alg : List ℕ

pub record SignedObject : Type 0 where
  pub payload : List ℕ
  pub signatures : List Signature

-- a signature, with the octets of its protected header
pub record DecodedSignature : Type 0 where
  pub octets : List ℕ
  pub parts : SignatureParts

-- a signature, with the members of its protected header
pub record HeadedSignature : Type 0 where
  pub members : Members
  pub parts : SignatureParts

-- a signature whose protected header is a base64url text (RFC 7515 section 5.2, step 2)
unfoldable pub decoded_part : SignatureParts → Result DecodedSignature Refusal
decoded_part parts = do
  octets ← decoded parts.protected
  Ok (record { octets = octets; parts = parts })

-- a signature whose members have these texts (RFC 7515 section 5.2, steps 2 and 7)
unfoldable pub decoded_signature : SignatureParts → Result DecodedSignature Refusal
decoded_signature texts = do
  signature ← decoded texts.signature
  decoded_part (record texts { signature = signature })

-- a signature whose protected header is the text of a JSON object (RFC 7515 section 5.2, step 3)
unfoldable pub headed_signature : DecodedSignature → Result HeadedSignature Refusal
headed_signature s = do
  members ← protected_members s.octets
  Ok (record { members = members; parts = s.parts })

-- Its headers have no name in common, and one of them names the algorithm. If that is one of key management, they have its parameters. See
-- RFC 7515 section 5.2, step 4, and docs/SPECIFICATION.md "Objects" 3.
unfoldable pub signature_by : List KeyAlg → HeadedSignature → Result Signature Refusal
signature_by algs s = do
  header ← joint_header s.members no_members s.parts.header
  alg ← string_there (codes "alg") header
  management ← key_management algs alg header
  Ok (record { protected = s.parts.protected; protected_members = s.members; header = s.parts.header; signature = s.parts.signature; alg = alg })

-- neither header has a `crit` (RFC 7515 section 5.2, step 5)
abbrev pub headers_have_no_crit : HeadedSignature → Bool
headers_have_no_crit s = has_no_crit s.members && has_no_crit s.parts.header

-- Each step is done for every signature before the next step. See RFC 7515 section 5.2, steps 3 to 5 and 9.
unfoldable pub signatures_of : List KeyAlg → List DecodedSignature → Result (List Signature) Refusal
signatures_of algs decoded = do
  headed ← each headed_signature decoded
  signatures ← each (signature_by algs) headed
  plain ← needs (list_all headers_have_no_crit headed) Unsupported
  Ok signatures

-- the object of a payload and these signatures
unfoldable pub signed_object : List KeyAlg → List ℕ → List DecodedSignature → Result SignedObject Refusal
signed_object algs payload decoded = do
  signatures ← signatures_of algs decoded
  Ok (record { payload = payload; signatures = signatures })

-- the object whose members have these texts, if it has not too many signatures (RFC 7515 section 5.2, steps 2 to 7)
unfoldable pub decoded_object : Limits → JwsParts → Result SignedObject Refusal
decoded_object limits texts = do
  few ← needs (are_few limits (length texts.signatures)) Limit
  payload ← decoded texts.payload
  signatures ← each decoded_signature texts.signatures
  signed_object limits.management payload signatures

-- the object of a text, and of a payload if one was handed in, or the first refusal (RFC 7515 section 5.2, steps 1 to 7)
unfoldable pub jws_of : Limits → Option (List ℕ) → List ℕ → Result SignedObject Refusal
jws_of limits detached text = do
  texts ← encoded_jws detached text
  decoded_object limits texts

-- ---- an object that is made of its members (docs/SPECIFICATION.md "Objects")

abbrev pub nest_at_most : ℕ → List SignatureParts → Bool
nest_at_most n signatures = list_all (λ s. nat_le (depth (object s.header)) n) signatures

abbrev pub have_whole_numbers : List SignatureParts → Bool
have_whole_numbers signatures = list_all (λ s. member_numbers_are_whole s.header) signatures

-- the object with these members, or the refusal of their JSON text
unfoldable pub built : Limits → JwsParts → Result SignedObject Refusal
built limits parts = do
  shallow ← needs (nest_at_most (depth_of_each (length parts.signatures)) parts.signatures) Json
  whole ← needs (have_whole_numbers parts.signatures) Number
  some ← needs (nat_le 1 (length parts.signatures)) Form
  few ← needs (are_few limits (length parts.signatures)) Limit
  signatures ← each decoded_part parts.signatures
  signed_object limits.management parts.payload signatures

-- ---- its texts (RFC 7515 section 7, docs/SPECIFICATION.md "Objects" 5)

-- the members of a signature, with the payload if it is next to them
abbrev pub signature_members : Option Data → SignatureParts → Entries
signature_members payload s =
    (codes "header", header_there s.header) ∷ (codes "payload", payload) ∷ (codes "protected", text_there s.protected)
    ∷ (codes "signature", Some (string (base64url s.signature))) ∷ []

-- general (section 7.2.1)
abbrev pub general_members : Option Data → List SignatureParts → Entries
general_members payload signatures = (codes "payload", payload) ∷ (codes "signatures", Some (array (objects (signature_members None) signatures))) ∷ []

-- flattened if there is one signature (section 7.2.2), and else general
abbrev pub jws_members : Option Data → List SignatureParts → Entries
jws_members payload [] = general_members payload []
jws_members payload (s ∷ []) = signature_members payload s
jws_members payload (s ∷ (other ∷ rest)) = general_members payload (s ∷ (other ∷ rest))

-- the JSON text: that of the value with these members, without spaces
unfoldable pub members_text : Bool → JwsParts → List ℕ
members_text detach parts = compact_text (object (present (jws_members (content_there detach (base64url parts.payload)) parts.signatures)))

-- the members of an object
abbrev pub signature_parts_of : Signature → SignatureParts
signature_parts_of s = record { protected = s.protected; header = s.header; signature = s.signature }

abbrev pub parts_of : SignedObject → JwsParts
parts_of o = record { payload = o.payload; signatures = map signature_parts_of o.signatures }

-- their JSON text
abbrev pub json_text : Bool → SignedObject → List ℕ
json_text detach o = members_text detach (parts_of o)

-- the three parts of a compact text, with dots between them (section 7.1), by the first signature
abbrev pub compact_parts : Bool → List ℕ → List SignatureParts → List ℕ
compact_parts detach payload [] = []
compact_parts detach payload (s ∷ rest) = between_dots (s.protected ∷ kept detach (base64url payload) ∷ base64url s.signature ∷ [])

-- a compact text can hold the object: it has one signature, and no unprotected header
abbrev pub is_compact : List Signature → Bool
is_compact [] = false
is_compact (s ∷ []) = not (has_members s.header)
is_compact (s ∷ (other ∷ rest)) = false

-- the compact text, if it can hold the object; the part of a detached payload is empty
unfoldable pub jws_compact_text : Bool → SignedObject → Result (List ℕ) Refusal
jws_compact_text detach o = do
  fits ← needs (is_compact o.signatures) NotCompact
  Ok (compact_parts detach o.payload (parts_of o).signatures)

-- compact or JSON, with the payload or without
abbrev pub jws_text : Bool → Bool → SignedObject → Result (List ℕ) Refusal
jws_text true detach o = jws_compact_text detach o
jws_text false detach o = Ok (json_text detach o)

-- ---- what is written is read, and what is read can be written (docs/SPECIFICATION.md "Objects")

-- Texts are UTF-8, and unprotected headers are JSON values, so their numbers are whole. The other members are octets.
pub record AreMembers (parts : JwsParts) : Type 0 where
  pub payload : IsOctets parts.payload
  pub signatures : AllByRecursion (λ s. IsUtf8 s.protected × (AreJsonMembers s.header × IsOctets s.signature)) parts.signatures

-- Making an object of members is the same as reading their JSON text, with a detached payload handed in.
abbrev pub BuildingIsReading : Type 0
BuildingIsReading = (limits : Limits) (parts : JwsParts) → AreMembers parts → (detach : Bool)
    → built limits parts ≡ jws_of limits (handed_in detach parts.payload) (members_text detach parts)

-- The JSON text of members is the compact text of the value that it reads as: it has no white space, and the names of each object stand in
-- byte order, each once.
abbrev pub JsonTextsAreCompact : Type 0
JsonTextsAreCompact = (detach : Bool) (parts : JwsParts) (value : Data) → AreMembers parts → json_value (members_text detach parts) ≡ Ok value
    → members_text detach parts ≡ compact_text value

-- the object can be made of members
abbrev pub IsMade : Limits → SignedObject → Type 0
IsMade limits o = (parts : JwsParts) × (AreMembers parts × (built limits parts ≡ Ok o))

-- The JSON text of an object that is made of its members reads as this object, and so does its compact text, if it has one. A detached
-- payload is handed in.
abbrev pub TextsSpellObjects : Type 0
TextsSpellObjects = (limits : Limits) (parts : JwsParts) (o : SignedObject) → AreMembers parts → built limits parts ≡ Ok o → (detach : Bool)
    → (jws_of limits (handed_in detach o.payload) (json_text detach o) ≡ Ok o)
    × ((text : List ℕ) → jws_compact_text detach o ≡ Ok text → jws_of limits (handed_in detach o.payload) text ≡ Ok o)

-- An object that is read can be made of its members.
abbrev pub ObjectsAreMade : Type 0
ObjectsAreMade = (limits : Limits) (detached : Option (List ℕ)) (text : List ℕ) (o : SignedObject) → AreOctetsHandedIn detached → IsOctets text
    → jws_of limits detached text ≡ Ok o
    → IsMade limits o

-- A compact text that is read is the compact text of the object, except for a line end.
abbrev pub CompactTextsAreExact : Type 0
CompactTextsAreExact = (limits : Limits) (detached : Option (List ℕ)) (text : List ℕ) (o : SignedObject) → AreOctetsHandedIn detached → IsOctets text
    → is_json_form text ≡ false
    → jws_of limits detached text ≡ Ok o → jws_compact_text (is_some detached) o ≡ Ok (without_line_end text)
