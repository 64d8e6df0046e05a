-- The texts of an encrypted object's members: they are read from its JSON text, and the object is read from them.
use Rattle.std.proofs.Common.{◌≡◌, ℕ, suc, ◌+◌, List, [], ◌∷◌, ◌++◌, length, map, codes, Bool, true, nat_le, Option, Some, None, Result, Ok, Err, refl, ap, ◌∙◌, arith}
use Rattle.std.proofs.lemmas.Bool.{and_parts, le-leb}
use Rattle.std.proofs.lemmas.List.{length-map}
use Rattle.std.specs.List.{AllByRecursion}
use Rattle.std.specs.Option.{option_or}
use Rattle.serde_json.specs.Data.{Data, no_members, object, depth}
use Rattle.serde_json.specs.Find.{get}
use Rattle.octets.specs.declared.refusal.Refusal.{Refusal}
use Rattle.octets.specs.declared.refusal.Refusal.TheVariants.{Json, Number, Form, Limit}
use Rattle.octets.specs.Base64url.{base64url, decoded}
use Rattle.octets.specs.Octets.{IsOctets}
use Rattle.octets.specs.Outcomes.{◌>>=◌, needs}
use Rattle.keys.specs.JsonTexts.{IsJson, AreJsonMembers}
use Rattle.ciphers.specs.declared.key_alg.KeyAlg.{KeyAlg}
use Rattle.keys.specs.Limits.{Limits, are_few}
use Rattle.objects.specs.Headers.{header_at}
use Rattle.objects.specs.Jwe.{JweParts, RecipientParts, EncryptedObject, encoded_recipient, no_recipient_at, recipients_by, recipient_objects, encoded_in_json, decoded_recipient, decoded_members, encrypted_object, decoded_object, nest_at_most, headers_are_shallow, have_whole_numbers, built, parts_of, AreMembers}
use Rattle.objects.specs.Texts.{handed_in, header_depth, depth_of_each}
use Rattle.objects.specs.Values.{content_there, Entries, text_there, header_there}
use Rattle.objects.proofs.Characters.{IsUrlText}
use Rattle.objects.proofs.DetachedContent.{content_entry, content_found}
use Rattle.objects.proofs.EachRead.{all_passed, all_both, all_images, bounded, each_alike, each_itself}
use Rattle.objects.proofs.ListedMembers.{each_entries, in_front, objects_by, ReadsEach, each_read, none_read, each_json, each_json_deeper}
use Rattle.objects.proofs.MadeOf.{object_is}
use Rattle.objects.proofs.Members.{put_all, first_there, get_member-put_all, AreJsonEntries, all_json}
use Rattle.objects.proofs.Spelling.{text_found, header_found, decoded_characters, name_is_json, spelled_is_json, text_entry, header_entry}
use Rattle.octets.proofs.Lemmas.{steps, passed, decodes_exactly, has_url_characters}
use Rattle.keys.proofs.Lemmas.{octets_of_utf8}

-- ---- the members of the JSON text

-- the members of a recipient, from the one that is inserted last
abbrev pub recipient_entries : RecipientParts → Entries
recipient_entries t = (codes "header", header_there t.header) ∷ (codes "encrypted_key", text_there t.encrypted_key) ∷ []

-- the members other than the recipients
abbrev pub own_entries : Bool → JweParts → Entries
own_entries detach t =
    (codes "unprotected", header_there t.unprotected) ∷ (codes "tag", text_there t.tag) ∷ (codes "protected", text_there t.protected)
    ∷ (codes "iv", text_there t.iv) ∷ (codes "ciphertext", content_there detach t.ciphertext) ∷ (codes "aad", text_there t.aad) ∷ []

abbrev pub entries : Bool → JweParts → Entries
entries detach t = own_entries detach t ++ each_entries (codes "recipients") recipient_entries t.recipients

-- A recipient is read from its members.
recipient_found : (es : Entries) (t : RecipientParts) → first_there (codes "encrypted_key") es ≡ option_or (text_there t.encrypted_key) None
    → first_there (codes "header") es ≡ option_or (header_there t.header) None → encoded_recipient (object (put_all es)) ≡ Ok t
unfolding encoded_recipient
recipient_found es t key header = rw (text_found (codes "encrypted_key") es t.encrypted_key key, header_found (codes "header") es t.header header) refl

-- Next to a list of recipients, there are no members of a single one.
nothing_beside : (detach : Bool) (t : JweParts) (list : Data)
    → no_recipient_at (object (put_all (own_entries detach t ++ (codes "recipients", Some list) ∷ []))) ≡ Ok tt
unfolding no_recipient_at
nothing_beside detach t list = rw (recipient_found (own_entries detach t ++ (codes "recipients", Some list) ∷ [])
    (record { header = no_members; encrypted_key = [] }) refl refl) refl

-- Recipients are read, one or a list of them.
recipients_are_read : (detach : Bool) (t : JweParts)
    → ReadsEach (codes "recipients") recipient_entries encoded_recipient no_recipient_at (own_entries detach t)
recipients_are_read detach t = record {
  has_no_list = λ r. get_member-put_all (codes "recipients") (own_entries detach t ++ recipient_entries r);
  beside = λ r. recipient_found (own_entries detach t ++ recipient_entries r) r refl refl;
  alone = λ r. recipient_found (recipient_entries r) r refl refl;
  has_list = λ list. get_member-put_all (codes "recipients") (own_entries detach t ++ (codes "recipients", Some list) ∷ []);
  nothing = nothing_beside detach t;
}

-- The objects of recipients are found the same way.
by_list : (value : Data) (list : Option Data) → recipients_by value list ≡ objects_by no_recipient_at value list
by_list value None = refl
by_list value (Some list) = refl

-- The shared header is read as it was inserted.
pub unprotected_found : (detach : Bool) (t : JweParts) → header_at (codes "unprotected") (object (put_all (entries detach t))) ≡ Ok t.unprotected
unprotected_found detach t =
    header_found (codes "unprotected") (entries detach t) t.unprotected
    (in_front (codes "recipients") recipient_entries t.recipients (codes "unprotected") _ refl (λ r. refl))

-- All texts are read as they were inserted, with the ciphertext that is handed in if it is detached.
pub texts_read : (detach : Bool) (ciphertext : List ℕ) (t : JweParts) → base64url ciphertext ≡ t.ciphertext → nat_le 1 (length t.recipients) ≡ true
    → encoded_in_json (handed_in detach ciphertext) (object (put_all (entries detach t))) ≡ Ok t
unfolding encoded_in_json recipient_objects
texts_read detach ciphertext t same some =
    let es = entries detach t in
    let value = object (put_all es) in
    let front = in_front (codes "recipients") recipient_entries t.recipients in
    let found = each_read (codes "recipients") recipient_entries encoded_recipient no_recipient_at (own_entries detach t)
    (recipients_are_read detach t) t.recipients some in
    rw (
      text_found (codes "protected") es t.protected (front (codes "protected") _ refl (λ r. refl)),
      unprotected_found detach t,
      text_found (codes "aad") es t.aad (front (codes "aad") _ refl (λ r. refl)),
      by_list value (get (codes "recipients") value),
      found.1,
      found.2,
      text_found (codes "iv") es t.iv (front (codes "iv") _ refl (λ r. refl)),
      content_found detach (codes "ciphertext") es ciphertext t.ciphertext same (front (codes "ciphertext") _ refl (λ r. refl)),
      text_found (codes "tag") es t.tag (front (codes "tag") _ refl (λ r. refl)),
    ) refl

-- Without a recipient, the members are refused.
pub no_texts_read : (detach : Bool) (ciphertext : List ℕ) (t : JweParts) → t.recipients ≡ []
    → encoded_in_json (handed_in detach ciphertext) (object (put_all (entries detach t))) ≡ Err Form
unfolding encoded_in_json recipient_objects
no_texts_read detach ciphertext t none =
    let es = entries detach t in
    let value = object (put_all es) in
    let front = in_front (codes "recipients") recipient_entries t.recipients in
    let found = none_read (codes "recipients") recipient_entries encoded_recipient no_recipient_at (own_entries detach t)
    (recipients_are_read detach t) t.recipients none in
    rw (
      text_found (codes "protected") es t.protected (front (codes "protected") _ refl (λ r. refl)),
      unprotected_found detach t,
      text_found (codes "aad") es t.aad (front (codes "aad") _ refl (λ r. refl)),
      by_list value (get (codes "recipients") value),
      found,
    ) refl

-- the texts of a recipient's members
abbrev pub recipient_spelled : RecipientParts → RecipientParts
recipient_spelled p = record { header = p.header; encrypted_key = base64url p.encrypted_key }

abbrev pub parts_spelled : JweParts → JweParts
parts_spelled p = record {
  protected = p.protected;
  unprotected = p.unprotected;
  iv = base64url p.iv;
  aad = base64url p.aad;
  ciphertext = base64url p.ciphertext;
  tag = base64url p.tag;
  recipients = map recipient_spelled p.recipients;
}

-- the texts of an object's members
abbrev pub spelled : EncryptedObject → JweParts
spelled o = parts_spelled (parts_of o)

-- ---- the members of which an object is made

-- An object has the texts of the parts that it is made of.
pub object_keeps : (algs : List KeyAlg) (octets : List ℕ) (parts : JweParts) (o : EncryptedObject) → encrypted_object algs octets parts ≡ Ok o
    → spelled o ≡ parts_spelled parts
object_keeps algs octets parts o h = ap parts_spelled (object_is algs octets parts o h)

-- an object that is built of these parts
pub record IsBuilt (limits : Limits) (parts : JweParts) (o : EncryptedObject) : Type 0 where
  pub shallow : headers_are_shallow parts ≡ true
  pub some : nat_le 1 (length parts.recipients) ≡ true
  pub few : are_few limits (length parts.recipients) ≡ true
  pub octets : List ℕ
  pub decodes : decoded parts.protected ≡ Ok octets
  pub made : encrypted_object limits.management octets parts ≡ Ok o

pub jwe_is_built : (limits : Limits) (parts : JweParts) (o : EncryptedObject) → built limits parts ≡ Ok o → IsBuilt limits parts o
unfolding built
jwe_is_built limits parts o h =
    let a = steps (needs (headers_are_shallow parts) Json) _ o h in
    let b = steps (needs (have_whole_numbers parts) Number) _ o a.2 in
    let c = steps (needs (nat_le 1 (length parts.recipients)) Form) _ o b.2 in
    let d = steps (needs (are_few limits (length parts.recipients)) Limit) _ o c.2 in
    let e = steps (decoded parts.protected) (λ octets. encrypted_object limits.management octets parts) o d.2 in
    record {
      shallow = passed _ Json a.0 a.1;
      some = passed _ Form c.0 c.1;
      few = passed _ Limit d.0 d.1;
      octets = e.0;
      decodes = e.1;
      made = e.2;
    }

-- the steps of building after the members are read
abbrev pub decoding : Limits → JweParts → Result EncryptedObject Refusal
decoding limits parts = do
  few ← needs (are_few limits (length parts.recipients)) Limit
  octets ← decoded parts.protected
  encrypted_object limits.management octets parts

-- The texts of the parts decode to the parts.
parts_read : (parts : JweParts) → AreMembers parts → decoded_members (parts_spelled parts) ≡ Ok parts
unfolding decoded_members decoded_recipient
parts_read parts members =
    let round = decodes_exactly.round_trip in
    let reads = each_alike (λ p. Ok p) decoded_recipient recipient_spelled (λ p h. rw (round p.encrypted_key h.1) refl) parts.recipients members.recipients in
    rw (
      round parts.aad members.aad,
      reads,
      each_itself parts.recipients,
      round parts.iv members.iv,
      round parts.ciphertext members.ciphertext,
      round parts.tag members.tag,
    ) refl

-- Reading the texts of the parts takes the same steps as building.
pub decoding_is : (limits : Limits) (parts : JweParts) → AreMembers parts → decoded_object limits (parts_spelled parts) ≡ decoding limits parts
unfolding decoded_object
decoding_is limits parts members = rw (length-map parts.recipients recipient_spelled, parts_read parts members) refl

-- The object is read from the texts of its parts.
pub object_read : (limits : Limits) (parts : JweParts) (o : EncryptedObject) → AreMembers parts → IsBuilt limits parts o
    → decoded_object limits (parts_spelled parts) ≡ Ok o
object_read limits parts o members is = decoding_is limits parts members ∙ rw (is.few, is.decodes) is.made

-- ---- the texts

-- the texts have only letters, digits, `-` and `_`
pub record HasUrlTexts (t : JweParts) : Type 0 where
  pub protected : IsUrlText t.protected
  pub aad : IsUrlText t.aad
  pub keys : AllByRecursion (λ r. IsUrlText r.encrypted_key) t.recipients
  pub iv : IsUrlText t.iv
  pub ciphertext : IsUrlText t.ciphertext
  pub tag : IsUrlText t.tag

pub url_texts : (limits : Limits) (parts : JweParts) (o : EncryptedObject) → AreMembers parts → IsBuilt limits parts o → HasUrlTexts (parts_spelled parts)
url_texts limits parts o members is = record {
  protected = decoded_characters parts.protected is.octets (octets_of_utf8 parts.protected members.protected) is.decodes;
  aad = has_url_characters parts.aad members.aad;
  keys = all_images (λ r. IsUrlText r.encrypted_key) recipient_spelled (λ p h. has_url_characters p.encrypted_key h.1) parts.recipients members.recipients;
  iv = has_url_characters parts.iv members.iv;
  ciphertext = has_url_characters parts.ciphertext members.ciphertext;
  tag = has_url_characters parts.tag members.tag;
}

-- The members of a recipient are JSON and nest no deeper than its header may.
recipient_json : (n : ℕ) (p : RecipientParts) → AreJsonMembers p.header × IsOctets p.encrypted_key → nat_le (depth (object p.header)) n ≡ true
    → AreJsonEntries n (recipient_entries (recipient_spelled p))
recipient_json n p members shallow = (
  header_entry n (codes "header") p.header refl members.0 shallow,
  (text_entry n (codes "encrypted_key") (base64url p.encrypted_key) refl (spelled_is_json p.encrypted_key members.1), tt),
)

-- The members other than the recipients are JSON, if those after them are.
own_json : (n : ℕ) (parts : JweParts) → AreMembers parts → nat_le (depth (object parts.unprotected)) n ≡ true → (detach : Bool) (later : Entries)
    → AreJsonEntries n later
    → AreJsonEntries n (own_entries detach (parts_spelled parts) ++ later)
own_json n parts members shallow detach later are =
    let unprotected = header_entry n (codes "unprotected") parts.unprotected refl members.unprotected shallow in
    let tag = text_entry n (codes "tag") (base64url parts.tag) refl (spelled_is_json parts.tag members.tag) in
    let protected = text_entry n (codes "protected") parts.protected refl members.protected in
    let iv = text_entry n (codes "iv") (base64url parts.iv) refl (spelled_is_json parts.iv members.iv) in
    let ciphertext = content_entry detach n (codes "ciphertext") (base64url parts.ciphertext) refl (spelled_is_json parts.ciphertext members.ciphertext) in
    let aad = text_entry n (codes "aad") (base64url parts.aad) refl (spelled_is_json parts.aad members.aad) in
    (unprotected, (tag, (protected, (iv, (ciphertext, (aad, are))))))

-- If no header is too deep, all members are JSON and not too deep.
pub members_json : (parts : JweParts) → AreMembers parts → headers_are_shallow parts ≡ true → (detach : Bool)
    → AreJsonEntries header_depth (entries detach (parts_spelled parts))
members_json parts members shallow detach =
    let n : ℕ = depth_of_each (length parts.recipients) in
    let both = and_parts (nat_le (depth (object parts.unprotected)) header_depth) (nest_at_most n parts.recipients) shallow in
    let each = all_both (recipient_json n) parts.recipients members.recipients (all_passed (λ p. nat_le (depth (object p.header)) n) parts.recipients both.1) in
    let recipients = each_json (codes "recipients") recipient_spelled recipient_entries parts.recipients (name_is_json (codes "recipients") refl) each in
    own_json header_depth parts members both.0 detach (each_entries (codes "recipients") recipient_entries (map recipient_spelled parts.recipients)) recipients

-- However deep the headers are, all members are JSON.
pub object_json : (parts : JweParts) → AreMembers parts → (detach : Bool) → IsJson (object (put_all (entries detach (parts_spelled parts))))
object_json parts members detach =
    let most = bounded (λ (p : RecipientParts). depth (object p.header)) parts.recipients in
    let n : ℕ = most.0 + depth (object parts.unprotected) in
    let each = all_both (λ p is h. recipient_json n p is (le-leb (depth (object p.header)) n (omega (arith, h)))) parts.recipients members.recipients most.1 in
    let recipients = each_json_deeper n (codes "recipients") recipient_spelled recipient_entries parts.recipients
    (name_is_json (codes "recipients") refl) each in
    let shallow : nat_le (depth (object parts.unprotected)) (suc (suc n)) ≡ true = le-leb _ _ (omega arith) in
    (all_json (suc (suc n)) (entries detach (parts_spelled parts))
    (own_json (suc (suc n)) parts members shallow detach
    (each_entries (codes "recipients") recipient_entries (map recipient_spelled parts.recipients)) recipients)).0
