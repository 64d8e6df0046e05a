-- JWE objects (RFC 7516): their compact texts (section 7.1) and their JSON texts, general and flattened (section 7.2).
use Rattle.std.specs.Prelude.{◌≡◌, ℕ, ◌&&◌, ◌==◌, Bool, true, false, not, List, [], ◌∷◌, length, map, codes, nat_le, is_some, is_none, if◌then◌else◌, Option, Some, None, Result, Ok}
use Rattle.std.specs.List.{AllByRecursion, list_all}
use Rattle.std.specs.Str.{bytes_eq, IsUtf8}
use Rattle.serde_json.specs.Data.{Data, Items, no_items, item, Members, no_members, array, object, depth}
use Rattle.serde_json.specs.Find.{get, get_member}
use Rattle.serde_json.specs.Written.{compact_text}
use Rattle.octets.specs.declared.refusal.Refusal.{Refusal}
use Rattle.octets.specs.declared.refusal.Refusal.TheVariants.{Json, Number, Form, Header, Unsupported, Limit, NotCompact}
use Rattle.octets.specs.Outcomes.{◌>>=◌, needs}
use Rattle.octets.specs.Octets.{IsOctets}
use Rattle.octets.specs.Base64url.{base64url, decoded}
use Rattle.octets.specs.LineEnds.{without_line_end}
use Rattle.ciphers.specs.declared.key_alg.KeyAlg.{KeyAlg}
use Rattle.keys.specs.Json.{json_value, member_numbers_are_whole}
use Rattle.keys.specs.JsonTexts.{AreJsonMembers}
use Rattle.keys.specs.Limits.{Limits, are_few}
use Rattle.objects.specs.Headers.{header_at, protected_members, joint_header, string_there, has_no_crit}
use Rattle.objects.specs.KeyManagement.{KeyManagement, key_management}
use Rattle.objects.specs.Texts.{each, each_item, is_json_form, split_at_dot, three_parts, text_at, content_by, content_text, handed_in, AreOctetsHandedIn, between_dots, kept, object_list, has_text, has_members, header_depth, depth_of_each}
use Rattle.objects.specs.Values.{Entries, present, objects, text_there, header_there, content_there}

-- ---- the members of an object (RFC 7516 section 7.2.1)

-- the per-recipient unprotected header, and the encrypted key
pub record RecipientParts : Type 0 where
  pub header : Members
  pub encrypted_key : List ℕ

-- the text of the protected header, as it was received, and the other members; an absent one is empty
pub record JweParts : Type 0 where
  pub protected : List ℕ
  pub unprotected : Members
  pub iv : List ℕ
  pub aad : List ℕ
  pub ciphertext : List ℕ
  pub tag : List ℕ
  pub recipients : List RecipientParts

-- ---- the members of a text (RFC 7516 section 5.2, step 1, and section 7)

-- The same records have the members of a text. Then `iv`, `aad`, `ciphertext`, `tag` and `encrypted_key` are base64url texts, and not yet
-- octets.

-- the members of a recipient
unfoldable pub encoded_recipient : Data → Result RecipientParts Refusal
encoded_recipient value = do
  encrypted_key ← text_at (codes "encrypted_key") value
  header ← header_at (codes "header") value
  Ok (record { header = header; encrypted_key = encrypted_key })

-- the object has no members of a recipient, other than empty ones
unfoldable pub no_recipient_at : Data → Result (Unit {0}) Refusal
no_recipient_at value = do
  own ← encoded_recipient value
  needs (not (has_text own.encrypted_key) && not (has_members own.header)) Form

-- The object itself if it is flattened (section 7.2.2), or the items of its list if it is general (section 7.2.1). Next to a list it may
-- have no members of a recipient.
abbrev pub recipients_by : Data → Option Data → Result Items Refusal
recipients_by value None = Ok (item value no_items)
recipients_by value (Some list) = do
  alone ← no_recipient_at value
  object_list list

unfoldable pub recipient_objects : Data → Result Items Refusal
recipient_objects value = recipients_by value (get (codes "recipients") value)

unfoldable pub encoded_in_json : Option (List ℕ) → Data → Result JweParts Refusal
encoded_in_json detached value = do
  protected ← text_at (codes "protected") value
  unprotected ← header_at (codes "unprotected") value
  aad ← text_at (codes "aad") value
  objects ← recipient_objects value
  recipients ← each_item encoded_recipient objects
  iv ← text_at (codes "iv") value
  ciphertext ← content_text detached (codes "ciphertext") value
  tag ← text_at (codes "tag") value
  Ok (record { protected = protected; unprotected = unprotected; iv = iv; aad = aad; ciphertext = ciphertext; tag = tag; recipients = recipients })

-- the members of a compact text with these parts
abbrev pub compact_members : List ℕ → List ℕ → List ℕ → List ℕ → List ℕ → JweParts
compact_members protected encrypted_key iv ciphertext tag = record {
  protected = protected;
  unprotected = no_members;
  iv = iv;
  aad = [];
  ciphertext = ciphertext;
  tag = tag;
  recipients = record { header = no_members; encrypted_key = encrypted_key } ∷ [];
}

-- exactly five parts with dots between them (section 7.1)
unfoldable pub encoded_in_compact : Option (List ℕ) → List ℕ → Result JweParts Refusal
encoded_in_compact detached text = do
  protected ← split_at_dot text
  encrypted_key ← split_at_dot protected.1
  content ← three_parts encrypted_key.1
  ciphertext ← content_by detached content.1
  Ok (compact_members protected.0 encrypted_key.0 content.0 ciphertext content.2)

-- The members of a JSON text, or of a compact text with or without a line end. The ciphertext may have been handed in.
unfoldable pub encoded_jwe : Option (List ℕ) → List ℕ → Result JweParts Refusal
encoded_jwe detached text = if is_json_form text then (json_value text >>= encoded_in_json detached) else encoded_in_compact detached (without_line_end text)

-- the octets of the base64url texts of the members, except the protected header (RFC 7516 section 5.2, step 2)
unfoldable pub decoded_recipient : RecipientParts → Result RecipientParts Refusal
decoded_recipient texts = do
  encrypted_key ← decoded texts.encrypted_key
  Ok (record texts { encrypted_key = encrypted_key })

unfoldable pub decoded_members : JweParts → Result JweParts Refusal
decoded_members texts = do
  aad ← decoded texts.aad
  recipients ← each decoded_recipient texts.recipients
  iv ← decoded texts.iv
  ciphertext ← decoded texts.ciphertext
  tag ← decoded texts.tag
  Ok (record texts { iv = iv; aad = aad; ciphertext = ciphertext; tag = tag; recipients = recipients })

-- ---- the object (RFC 7516 section 3)

-- A recipient: its per-recipient unprotected header, its encrypted key, and what its joint header says.
pub record Recipient : Type 0 where
  pub header : Members
  pub encrypted_key : List ℕ
  pub alg : List ℕ
  pub enc : List ℕ
  pub management : KeyManagement

-- An encrypted object: its members, and the members of its protected header.
pub record EncryptedObject : Type 0 where
  pub protected : List ℕ
  pub protected_members : Members
  pub unprotected : Members
  pub iv : List ℕ
  pub aad : List ℕ
  pub ciphertext : List ℕ
  pub tag : List ℕ
  pub recipients : List Recipient

-- ---- the header of a recipient (RFC 7516 section 5.2, step 4)

-- a recipient, by its joint header
unfoldable pub recipient_by : List KeyAlg → Members → RecipientParts → Result Recipient Refusal
recipient_by algs header parts = do
  alg ← string_there (codes "alg") header
  enc ← string_there (codes "enc") header
  management ← key_management algs alg header
  Ok (record { header = parts.header; encrypted_key = parts.encrypted_key; alg = alg; enc = enc; management = management })

unfoldable pub recipient_of : List KeyAlg → Members → Members → RecipientParts → Result Recipient Refusal
recipient_of algs protected unprotected parts = do
  header ← joint_header protected unprotected parts.header
  recipient_by algs header parts

-- the recipients, in order
abbrev pub recipients_of : List KeyAlg → Members → Members → List RecipientParts → Result (List Recipient) Refusal
recipients_of algs protected unprotected parts = each (recipient_of algs protected unprotected) parts

-- `enc` is the same for all (section 7.2.1)
abbrev pub have_enc : List ℕ → List Recipient → Bool
have_enc enc recipients = list_all (λ r. bytes_eq r.enc enc) recipients

abbrev pub have_one_enc : List Recipient → Bool
have_one_enc [] = true
have_one_enc (first ∷ rest) = have_enc first.enc (first ∷ rest)

unfoldable pub recipients_of_one_enc : List KeyAlg → Members → Members → List RecipientParts → Result (List Recipient) Refusal
recipients_of_one_enc algs protected unprotected parts = do
  recipients ← recipients_of algs protected unprotected parts
  one ← needs (have_one_enc recipients) Header
  Ok recipients

-- ---- members that are refused

-- neither `crit` nor `zip`: no extension is known, and no content is compressed (RFC 7516 sections 4.1.3 and 4.1.13)
abbrev pub has_no_crit_or_zip : Members → Bool
has_no_crit_or_zip header = has_no_crit header && is_none (get_member (codes "zip") header)

-- no part of a header has one (RFC 7516 section 5.2, step 5, and docs/SPECIFICATION.md "Objects" 4)
abbrev pub have_no_crit_or_zip : Members → Members → List RecipientParts → Bool
have_no_crit_or_zip protected unprotected recipients =
    has_no_crit_or_zip protected && (has_no_crit_or_zip unprotected && list_all (λ r. has_no_crit_or_zip r.header) recipients)

-- the object with these members and these octets of its protected header (RFC 7516 section 5.2, steps 3 to 5)
unfoldable pub encrypted_object : List KeyAlg → List ℕ → JweParts → Result EncryptedObject Refusal
encrypted_object algs octets parts = do
  protected ← protected_members octets
  recipients ← recipients_of_one_enc algs protected parts.unprotected parts.recipients
  plain ← needs (have_no_crit_or_zip protected parts.unprotected parts.recipients) Unsupported
  Ok (record {
    protected = parts.protected;
    protected_members = protected;
    unprotected = parts.unprotected;
    iv = parts.iv;
    aad = parts.aad;
    ciphertext = parts.ciphertext;
    tag = parts.tag;
    recipients = recipients;
  })

-- the object whose members have these texts, if it has not too many recipients (RFC 7516 section 5.2, steps 2 to 5)
unfoldable pub decoded_object : Limits → JweParts → Result EncryptedObject Refusal
decoded_object limits texts = do
  few ← needs (are_few limits (length texts.recipients)) Limit
  octets ← decoded texts.protected
  parts ← decoded_members texts
  encrypted_object limits.management octets parts

-- the object of a text, and of a ciphertext if one was handed in, or the first refusal (RFC 7516 section 5.2, steps 1 to 5)
unfoldable pub jwe_of : Limits → Option (List ℕ) → List ℕ → Result EncryptedObject Refusal
jwe_of limits detached text = do
  texts ← encoded_jwe detached text
  decoded_object limits texts

-- ---- an object that is made of its members (docs/SPECIFICATION.md "Objects")

abbrev pub nest_at_most : ℕ → List RecipientParts → Bool
nest_at_most n recipients = list_all (λ r. nat_le (depth (object r.header)) n) recipients

-- no header is too deep
abbrev pub headers_are_shallow : JweParts → Bool
headers_are_shallow parts = nat_le (depth (object parts.unprotected)) header_depth && nest_at_most (depth_of_each (length parts.recipients)) parts.recipients

abbrev pub have_whole_numbers : JweParts → Bool
have_whole_numbers parts = member_numbers_are_whole parts.unprotected && list_all (λ r. member_numbers_are_whole r.header) parts.recipients

-- the object with these members, or the refusal of their JSON text
unfoldable pub built : Limits → JweParts → Result EncryptedObject Refusal
built limits parts = do
  shallow ← needs (headers_are_shallow parts) Json
  whole ← needs (have_whole_numbers parts) Number
  some ← needs (nat_le 1 (length parts.recipients)) Form
  few ← needs (are_few limits (length parts.recipients)) Limit
  octets ← decoded parts.protected
  encrypted_object limits.management octets parts

-- ---- its texts (RFC 7516 section 7, docs/SPECIFICATION.md "Objects" 5)

-- the members of a recipient
abbrev pub recipient_members : RecipientParts → Entries
recipient_members r = (codes "encrypted_key", text_there (base64url r.encrypted_key)) ∷ (codes "header", header_there r.header) ∷ []

-- several recipients, or none, are a list (section 7.2.1)
abbrev pub general_members : Option Data → JweParts → List RecipientParts → Entries
general_members ciphertext p recipients =
    (codes "aad", text_there (base64url p.aad))
    ∷ (codes "ciphertext", ciphertext)
    ∷ (codes "iv", text_there (base64url p.iv))
    ∷ (codes "protected", text_there p.protected)
    ∷ (codes "recipients", Some (array (objects recipient_members recipients)))
    ∷ (codes "tag", text_there (base64url p.tag))
    ∷ (codes "unprotected", header_there p.unprotected)
    ∷ []

-- the members of one recipient are among the others (section 7.2.2)
abbrev pub flattened_members : Option Data → JweParts → RecipientParts → Entries
flattened_members ciphertext p r =
    (codes "aad", text_there (base64url p.aad))
    ∷ (codes "ciphertext", ciphertext)
    ∷ (codes "encrypted_key", text_there (base64url r.encrypted_key))
    ∷ (codes "header", header_there r.header)
    ∷ (codes "iv", text_there (base64url p.iv))
    ∷ (codes "protected", text_there p.protected)
    ∷ (codes "tag", text_there (base64url p.tag))
    ∷ (codes "unprotected", header_there p.unprotected)
    ∷ []

abbrev pub jwe_members : Option Data → JweParts → List RecipientParts → Entries
jwe_members ciphertext p [] = general_members ciphertext p []
jwe_members ciphertext p (r ∷ []) = flattened_members ciphertext p r
jwe_members ciphertext p (r ∷ (other ∷ rest)) = general_members ciphertext p (r ∷ (other ∷ rest))

-- the JSON text: that of the value with these members, without spaces
unfoldable pub members_text : Bool → JweParts → List ℕ
members_text detach parts = compact_text (object (present (jwe_members (content_there detach (base64url parts.ciphertext)) parts parts.recipients)))

-- the members of an object
abbrev pub recipient_parts_of : Recipient → RecipientParts
recipient_parts_of r = record { header = r.header; encrypted_key = r.encrypted_key }

abbrev pub parts_of : EncryptedObject → JweParts
parts_of o = record {
  protected = o.protected;
  unprotected = o.unprotected;
  iv = o.iv;
  aad = o.aad;
  ciphertext = o.ciphertext;
  tag = o.tag;
  recipients = map recipient_parts_of o.recipients;
}

-- their JSON text
abbrev pub json_text : Bool → EncryptedObject → List ℕ
json_text detach o = members_text detach (parts_of o)

abbrev pub key_of_first : List RecipientParts → List ℕ
key_of_first [] = []
key_of_first (r ∷ rest) = r.encrypted_key

-- the five parts of a compact text, with dots between them (section 7.1), by the first recipient
abbrev pub compact_parts : Bool → JweParts → List ℕ
compact_parts detach p =
    between_dots (p.protected ∷ base64url (key_of_first p.recipients) ∷ base64url p.iv ∷ kept detach (base64url p.ciphertext) ∷ base64url p.tag ∷ [])

-- a compact text can hold the object: it has one recipient, only a protected header, and no additional data
abbrev pub is_compact : EncryptedObject → List Recipient → Bool
is_compact o [] = false
is_compact o (r ∷ []) = not (has_members o.unprotected) && (not (has_members r.header) && (length o.aad == 0))
is_compact o (r ∷ (other ∷ rest)) = false

-- the compact text, if it can hold the object; the part of a detached ciphertext is empty
unfoldable pub jwe_compact_text : Bool → EncryptedObject → Result (List ℕ) Refusal
jwe_compact_text detach o = do
  fits ← needs (is_compact o o.recipients) NotCompact
  Ok (compact_parts detach (parts_of o))

-- compact or JSON, with the ciphertext or without
abbrev pub jwe_text : Bool → Bool → EncryptedObject → Result (List ℕ) Refusal
jwe_text true detach o = jwe_compact_text detach o
jwe_text false detach o = Ok (json_text detach o)

-- ---- what is written is read, and what is read can be written (docs/SPECIFICATION.md "Objects")

-- Texts are UTF-8, and unprotected headers are JSON values, so their numbers are whole. The other members are octets.
pub record AreMembers (parts : JweParts) : Type 0 where
  pub protected : IsUtf8 parts.protected
  pub unprotected : AreJsonMembers parts.unprotected
  pub iv : IsOctets parts.iv
  pub aad : IsOctets parts.aad
  pub ciphertext : IsOctets parts.ciphertext
  pub tag : IsOctets parts.tag
  pub recipients : AllByRecursion (λ r. AreJsonMembers r.header × IsOctets r.encrypted_key) parts.recipients

-- Making an object of members is the same as reading their JSON text, with a detached ciphertext handed in.
abbrev pub BuildingIsReading : Type 0
BuildingIsReading = (limits : Limits) (parts : JweParts) → AreMembers parts → (detach : Bool)
    → built limits parts ≡ jwe_of limits (handed_in detach parts.ciphertext) (members_text detach parts)

-- The JSON text of members is the compact text of the value that it reads as: it has no white space, and the names of each object stand in
-- byte order, each once.
abbrev pub JsonTextsAreCompact : Type 0
JsonTextsAreCompact = (detach : Bool) (parts : JweParts) (value : Data) → AreMembers parts → json_value (members_text detach parts) ≡ Ok value
    → members_text detach parts ≡ compact_text value

-- the object can be made of members
abbrev pub IsMade : Limits → EncryptedObject → Type 0
IsMade limits o = (parts : JweParts) × (AreMembers parts × (built limits parts ≡ Ok o))

-- The JSON text of an object that is made of its members reads as this object, and so does its compact text, if it has one. A detached
-- ciphertext is handed in.
abbrev pub TextsSpellObjects : Type 0
TextsSpellObjects = (limits : Limits) (parts : JweParts) (o : EncryptedObject) → AreMembers parts → built limits parts ≡ Ok o → (detach : Bool)
    → (jwe_of limits (handed_in detach o.ciphertext) (json_text detach o) ≡ Ok o)
    × ((text : List ℕ) → jwe_compact_text detach o ≡ Ok text → jwe_of limits (handed_in detach o.ciphertext) text ≡ Ok o)

-- An object that is read can be made of its members.
abbrev pub ObjectsAreMade : Type 0
ObjectsAreMade = (limits : Limits) (detached : Option (List ℕ)) (text : List ℕ) (o : EncryptedObject) → AreOctetsHandedIn detached → IsOctets text
    → jwe_of limits detached text ≡ Ok o
    → IsMade limits o

-- A compact text that is read is the compact text of the object, except for a line end.
abbrev pub CompactTextsAreExact : Type 0
CompactTextsAreExact = (limits : Limits) (detached : Option (List ℕ)) (text : List ℕ) (o : EncryptedObject) → AreOctetsHandedIn detached → IsOctets text
    → is_json_form text ≡ false
    → jwe_of limits detached text ≡ Ok o → jwe_compact_text (is_some detached) o ≡ Ok (without_line_end text)
