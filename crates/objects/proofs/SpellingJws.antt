-- The texts of a signed object's members: they are read from its JSON text, and the object is read from them.
use Rattle.std.proofs.Common.{◌≡◌, ℕ, suc, List, [], ◌∷◌, ◌++◌, length, map, codes, Bool, true, nat_le, Option, Some, None, Result, Ok, Err, IsUtf8, refl, sym, ap, ap₂, ◌∙◌}
use Rattle.std.proofs.lemmas.Bool.{le-leb}
use Rattle.std.proofs.lemmas.List.{length-map, map-id}
use Rattle.std.specs.List.{AllByRecursion}
use Rattle.std.specs.Option.{option_or}
use Rattle.serde_json.specs.Data.{Data, no_members, string, object, depth}
use Rattle.serde_json.specs.Find.{get}
use Rattle.octets.specs.declared.refusal.Refusal.{Refusal}
use Rattle.octets.specs.declared.refusal.Refusal.TheVariants.{Json, Number, Form, Limit}
use Rattle.octets.specs.Base64url.{base64url, decoded}
use Rattle.octets.specs.Octets.{IsOctets}
use Rattle.octets.specs.Outcomes.{◌>>=◌, needs}
use Rattle.keys.specs.JsonTexts.{IsJson, AreJsonMembers}
use Rattle.keys.specs.Limits.{Limits, are_few}
use Rattle.objects.specs.Jws.{JwsParts, SignatureParts, SignedObject, DecodedSignature, encoded_signature, no_signature_at, signatures_by, signature_objects, encoded_in_json, decoded_part, decoded_signature, signed_object, decoded_object, nest_at_most, have_whole_numbers, built, parts_of, AreMembers}
use Rattle.objects.specs.Texts.{each, handed_in, header_depth, depth_of_each}
use Rattle.objects.specs.Values.{content_there, Entries, text_there, header_there}
use Rattle.objects.proofs.Characters.{IsUrlText}
use Rattle.objects.proofs.DetachedContent.{content_entry, content_found}
use Rattle.objects.proofs.EachRead.{all_passed, all_both, all_images, bounded, each_keeps, each_all, each_alike}
use Rattle.objects.proofs.ListedMembers.{each_entries, in_front, objects_by, ReadsEach, each_read, none_read, each_json, each_json_deeper}
use Rattle.objects.proofs.MadeOf.{signed_is}
use Rattle.objects.proofs.Members.{put_all, first_there, get_member-put_all, IsJsonIfThere, AreJsonEntries, all_json}
use Rattle.objects.proofs.Spelling.{text_found, header_found, required_found, decoded_characters, name_is_json, spelled_is_json, required_entry, text_entry, header_entry}
use Rattle.octets.proofs.Lemmas.{steps, passed, same_answer, decodes_exactly, has_url_characters}
use Rattle.keys.proofs.Lemmas.{octets_of_utf8}

-- ---- the members of the JSON text

-- the members of a signature, from the one that is inserted last
abbrev pub signature_entries : SignatureParts → Entries
signature_entries t = (codes "header", header_there t.header) ∷ (codes "signature", Some (string t.signature))
    ∷ (codes "protected", text_there t.protected) ∷ []

-- the member other than the signatures
abbrev own_entries : Bool → JwsParts → Entries
own_entries detach t = (codes "payload", content_there detach t.payload) ∷ []

abbrev pub entries : Bool → JwsParts → Entries
entries detach t = own_entries detach t ++ each_entries (codes "signatures") signature_entries t.signatures

-- A signature is read from its members.
signature_found : (es : Entries) (t : SignatureParts) → first_there (codes "protected") es ≡ option_or (text_there t.protected) None
    → first_there (codes "header") es ≡ option_or (header_there t.header) None → first_there (codes "signature") es ≡ Some (string t.signature)
    → encoded_signature (object (put_all es)) ≡ Ok t
unfolding encoded_signature
signature_found es t protected header signature =
    rw (
      text_found (codes "protected") es t.protected protected,
      header_found (codes "header") es t.header header,
      required_found (codes "signature") es t.signature signature,
    ) refl

-- Next to a list of signatures, there are no members of a single one.
nothing_beside : (detach : Bool) (t : JwsParts) (list : Data)
    → no_signature_at (object (put_all (own_entries detach t ++ (codes "signatures", Some list) ∷ []))) ≡ Ok tt
unfolding no_signature_at
nothing_beside detach t list =
    let es : Entries = own_entries detach t ++ (codes "signatures", Some list) ∷ [] in
    let no_signature : get (codes "signature") (object (put_all es)) ≡ None = get_member-put_all (codes "signature") es in
    rw (text_found (codes "protected") es [] refl, header_found (codes "header") es no_members refl, no_signature) refl

-- Signatures are read, one or a list of them.
signatures_are_read : (detach : Bool) (t : JwsParts)
    → ReadsEach (codes "signatures") signature_entries encoded_signature no_signature_at (own_entries detach t)
signatures_are_read detach t = record {
  has_no_list = λ s. get_member-put_all (codes "signatures") (own_entries detach t ++ signature_entries s);
  beside = λ s. signature_found (own_entries detach t ++ signature_entries s) s refl refl refl;
  alone = λ s. signature_found (signature_entries s) s refl refl refl;
  has_list = λ list. get_member-put_all (codes "signatures") (own_entries detach t ++ (codes "signatures", Some list) ∷ []);
  nothing = nothing_beside detach t;
}

-- The objects of signatures are found the same way.
by_list : (value : Data) (list : Option Data) → signatures_by value list ≡ objects_by no_signature_at value list
by_list value None = refl
by_list value (Some list) = refl

-- All texts are read as they were inserted, with the payload that is handed in if it is detached.
pub texts_read : (detach : Bool) (payload : List ℕ) (t : JwsParts) → base64url payload ≡ t.payload → nat_le 1 (length t.signatures) ≡ true
    → encoded_in_json (handed_in detach payload) (object (put_all (entries detach t))) ≡ Ok t
unfolding encoded_in_json signature_objects
texts_read detach payload t same some =
    let value = object (put_all (entries detach t)) in
    let front = in_front (codes "signatures") signature_entries t.signatures in
    let found = each_read (codes "signatures") signature_entries encoded_signature no_signature_at (own_entries detach t)
    (signatures_are_read detach t) t.signatures some in
    rw (
      content_found detach (codes "payload") (entries detach t) payload t.payload same (front (codes "payload") _ refl (λ s. refl)),
      by_list value (get (codes "signatures") value),
      found.1,
      found.2,
    ) refl

-- Without a signature, the members are refused.
pub no_texts_read : (detach : Bool) (payload : List ℕ) (t : JwsParts) → base64url payload ≡ t.payload → t.signatures ≡ []
    → encoded_in_json (handed_in detach payload) (object (put_all (entries detach t))) ≡ Err Form
unfolding encoded_in_json signature_objects
no_texts_read detach payload t same none =
    let value = object (put_all (entries detach t)) in
    let front = in_front (codes "signatures") signature_entries t.signatures in
    let found = none_read (codes "signatures") signature_entries encoded_signature no_signature_at (own_entries detach t)
    (signatures_are_read detach t) t.signatures none in
    rw (
      content_found detach (codes "payload") (entries detach t) payload t.payload same (front (codes "payload") _ refl (λ s. refl)),
      by_list value (get (codes "signatures") value),
      found,
    ) refl

-- the texts of a signature's members
abbrev pub signature_spelled : SignatureParts → SignatureParts
signature_spelled p = record { protected = p.protected; header = p.header; signature = base64url p.signature }

abbrev pub parts_spelled : JwsParts → JwsParts
parts_spelled p = record { payload = base64url p.payload; signatures = map signature_spelled p.signatures }

-- the texts of an object's members
abbrev pub spelled : SignedObject → JwsParts
spelled o = parts_spelled (parts_of o)

-- ---- the members of which an object is made

-- an object that is built of these parts
pub record IsBuilt (limits : Limits) (parts : JwsParts) (o : SignedObject) : Type 0 where
  pub shallow : nest_at_most (depth_of_each (length parts.signatures)) parts.signatures ≡ true
  pub some : nat_le 1 (length parts.signatures) ≡ true
  pub few : are_few limits (length parts.signatures) ≡ true
  pub decoded : List DecodedSignature
  pub decodes : each decoded_part parts.signatures ≡ Ok decoded
  pub made : signed_object limits.management parts.payload decoded ≡ Ok o

pub jws_is_built : (limits : Limits) (parts : JwsParts) (o : SignedObject) → built limits parts ≡ Ok o → IsBuilt limits parts o
unfolding built
jws_is_built limits parts o h =
    let a = steps (needs (nest_at_most (depth_of_each (length parts.signatures)) parts.signatures) Json) _ o h in
    let b = steps (needs (have_whole_numbers parts.signatures) Number) _ o a.2 in
    let c = steps (needs (nat_le 1 (length parts.signatures)) Form) _ o b.2 in
    let d = steps (needs (are_few limits (length parts.signatures)) Limit) _ o c.2 in
    let e = steps (each decoded_part parts.signatures) (λ signatures. signed_object limits.management parts.payload signatures) o d.2 in
    record {
      shallow = passed _ Json a.0 a.1;
      some = passed _ Form c.0 c.1;
      few = passed _ Limit d.0 d.1;
      decoded = e.0;
      decodes = e.1;
      made = e.2;
    }

decoded_is : (p : SignatureParts) (d : DecodedSignature) → decoded_part p ≡ Ok d → d.parts ≡ p
unfolding decoded_part
decoded_is p d h =
    let a = steps (decoded p.protected) _ d h in
    ap (λ (d : DecodedSignature). d.parts) (sym (same_answer _ d a.2))

-- The parts of an object are those that it is built of.
pub parts_are : (limits : Limits) (parts : JwsParts) (o : SignedObject) → IsBuilt limits parts o → parts_of o ≡ parts
parts_are limits parts o is =
    let signed = signed_is limits.management parts.payload is.decoded o is.made in
    let kept = each_keeps decoded_part (λ p. p) (λ (d : DecodedSignature). d.parts) decoded_is parts.signatures is.decoded is.decodes
    ∙ map-id parts.signatures in
    ap₂ (λ payload signatures. let p : JwsParts = record { payload = payload; signatures = signatures } in p) signed.payload (signed.signatures ∙ kept)

-- An object has the texts of the parts that it is built of.
pub object_keeps : (limits : Limits) (parts : JwsParts) (o : SignedObject) → IsBuilt limits parts o → spelled o ≡ parts_spelled parts
object_keeps limits parts o is = ap parts_spelled (parts_are limits parts o is)

-- the steps of building after the members are read
abbrev pub decoding : Limits → JwsParts → Result SignedObject Refusal
decoding limits parts = do
  few ← needs (are_few limits (length parts.signatures)) Limit
  signatures ← each decoded_part parts.signatures
  signed_object limits.management parts.payload signatures

-- Reading the texts of the parts takes the same steps as building.
pub decoding_is : (limits : Limits) (parts : JwsParts) → AreMembers parts → decoded_object limits (parts_spelled parts) ≡ decoding limits parts
unfolding decoded_object decoded_signature
decoding_is limits parts members =
    let round = decodes_exactly.round_trip in
    let reads = each_alike decoded_part decoded_signature signature_spelled (λ p h. rw (round p.signature h.1.1) refl) parts.signatures members.signatures in
    rw (length-map parts.signatures signature_spelled, round parts.payload members.payload, reads) refl

-- The object is read from the texts of its parts.
pub object_read : (limits : Limits) (parts : JwsParts) (o : SignedObject) → AreMembers parts → IsBuilt limits parts o
    → decoded_object limits (parts_spelled parts) ≡ Ok o
object_read limits parts o members is = decoding_is limits parts members ∙ rw (is.few, is.decodes) is.made

-- ---- the texts

-- the texts of a signature have only letters, digits, `-` and `_`
abbrev AreUrlTexts : SignatureParts → Type 0
AreUrlTexts s = IsUrlText s.protected × IsUrlText s.signature

-- the texts of an object have only these characters
pub record HasUrlTexts (t : JwsParts) : Type 0 where
  pub payload : IsUrlText t.payload
  pub signatures : AllByRecursion AreUrlTexts t.signatures

signature_url_texts : (p : SignatureParts) (d : DecodedSignature) → IsUtf8 p.protected × (AreJsonMembers p.header × IsOctets p.signature)
    → decoded_part p ≡ Ok d → AreUrlTexts (signature_spelled p)
unfolding decoded_part
signature_url_texts p d members h =
    let a = steps (decoded p.protected) _ d h in
    (decoded_characters p.protected a.0 (octets_of_utf8 p.protected members.0) a.1, has_url_characters p.signature members.1.1)

pub url_texts : (limits : Limits) (parts : JwsParts) (o : SignedObject) → AreMembers parts → IsBuilt limits parts o → HasUrlTexts (parts_spelled parts)
url_texts limits parts o members is = record {
  payload = has_url_characters parts.payload members.payload;
  signatures = all_images AreUrlTexts signature_spelled (λ p h. h) parts.signatures
      (each_all decoded_part (signature_url_texts) parts.signatures is.decoded is.decodes members.signatures);
}

-- The members of a signature are JSON and nest no deeper than its header may.
signature_json : (n : ℕ) (p : SignatureParts) → IsUtf8 p.protected × (AreJsonMembers p.header × IsOctets p.signature)
    → nat_le (depth (object p.header)) n ≡ true
    → AreJsonEntries n (signature_entries (signature_spelled p))
signature_json n p members shallow =
    let header = header_entry n (codes "header") p.header refl members.1.0 shallow in
    let signature = required_entry n (codes "signature") (base64url p.signature) refl (spelled_is_json p.signature members.1.1) in
    let protected = text_entry n (codes "protected") p.protected refl members.0 in
    (header, (signature, (protected, tt)))

payload_json : (n : ℕ) (parts : JwsParts) → AreMembers parts → (detach : Bool) → IsUtf8 (codes "payload")
    × IsJsonIfThere n (content_there detach (base64url parts.payload))
payload_json n parts members detach = content_entry detach n (codes "payload") (base64url parts.payload) refl (spelled_is_json parts.payload members.payload)

-- If no header is too deep, all members are JSON and not too deep.
pub members_json : (parts : JwsParts) → AreMembers parts → nest_at_most (depth_of_each (length parts.signatures)) parts.signatures ≡ true → (detach : Bool)
    → AreJsonEntries header_depth (entries detach (parts_spelled parts))
members_json parts members nest detach =
    let n : ℕ = depth_of_each (length parts.signatures) in
    let shallow = all_passed (λ p. nat_le (depth (object p.header)) n) parts.signatures nest in
    let each = all_both (signature_json n) parts.signatures members.signatures shallow in (
      payload_json header_depth parts members detach,
      each_json (codes "signatures") signature_spelled signature_entries parts.signatures
          (name_is_json (codes "signatures") refl) each,
    )

-- However deep the headers are, all members are JSON.
pub object_json : (parts : JwsParts) → AreMembers parts → (detach : Bool) → IsJson (object (put_all (entries detach (parts_spelled parts))))
object_json parts members detach =
    let most = bounded (λ (p : SignatureParts). depth (object p.header)) parts.signatures in
    let n : ℕ = most.0 in
    let each = all_both (λ p is h. signature_json n p is (le-leb (depth (object p.header)) n h)) parts.signatures members.signatures most.1 in
    let signatures = each_json_deeper n (codes "signatures") signature_spelled signature_entries parts.signatures
    (name_is_json (codes "signatures") refl) each in
    (all_json (suc (suc n)) (entries detach (parts_spelled parts)) (payload_json (suc (suc n)) parts members detach, signatures)).0
