-- An encrypted object that is read can be made of its members.
use Rattle.std.proofs.Common.{◌≡◌, ◌≤◌, ℕ, suc, List, [], ◌∷◌, length, codes, true, nat_le, Option, Some, None, Ok, IsUtf8, refl, sym, ap, ◌∙◌, subst, arith}
use Rattle.std.proofs.lemmas.Bool.{and_from, le-leb}
use Rattle.std.specs.List.{AllByRecursion}
use Rattle.serde_json.specs.Data.{Data, Items, no_members}
use Rattle.serde_json.specs.Find.{get}
use Rattle.octets.specs.declared.refusal.Refusal.TheVariants.{Limit}
use Rattle.octets.specs.Base64url.{decoded}
use Rattle.octets.specs.Octets.{IsOctets}
use Rattle.octets.specs.Outcomes.{needs}
use Rattle.octets.proofs.Lemmas.{IsOctets-nil, steps, passed, same_answer, octets_of_meaning}
use Rattle.keys.specs.Limits.{Limits, are_few}
use Rattle.objects.specs.Headers.{header_at}
use Rattle.objects.specs.Jwe.{RecipientParts, JweParts, EncryptedObject, encoded_recipient, no_recipient_at, recipients_by, recipient_objects, encoded_in_json, compact_members, encoded_in_compact, encoded_jwe, decoded_recipient, decoded_members, decoded_object, jwe_of, headers_are_shallow, have_whole_numbers, built, AreMembers, ObjectsAreMade}
use Rattle.objects.specs.Texts.{each, each_item, is_json_form, split_at_dot, three_parts, text_at, content_by, content_text, AreOctetsHandedIn, header_depth, depth_of_each}
use Rattle.objects.proofs.DetachedContent.{MeansOctets, part_octets, member_octets}
use Rattle.objects.proofs.Each.{as_many}
use Rattle.objects.proofs.EachRead.{all_read, all_pass, all_then}
use Rattle.objects.proofs.Joined.{split_octets, three_octets}
use Rattle.objects.proofs.ReadJson.{text_is_json, IsShallow, IsHeader, AreObjects, no_header, header_whole, text_octets, header_shallow, alone, listed, each_is, of_text}

-- ---- the headers are JSON and the texts are octets, except that of the ciphertext, which decodes to octets

pub record IsRecipient (n : ℕ) (t : RecipientParts) : Type 0 where
  pub header : IsHeader n t.header
  pub encrypted_key : IsOctets t.encrypted_key

pub record AreTexts (t : JweParts) : Type 0 where
  pub protected : IsOctets t.protected
  pub unprotected : IsHeader header_depth t.unprotected
  pub aad : IsOctets t.aad
  pub recipients : AllByRecursion (IsRecipient (depth_of_each (length t.recipients))) t.recipients
  pub some : 1 ≤ length t.recipients
  pub iv : IsOctets t.iv
  pub ciphertext : MeansOctets t.ciphertext
  pub tag : IsOctets t.tag

-- ---- in JSON form

recipient_is : (n : ℕ) (d : Data) (t : RecipientParts) → 1 ≤ n → IsShallow (suc n) d → encoded_recipient d ≡ Ok t → IsRecipient n t
unfolding encoded_recipient
recipient_is n d t some is h =
    let a = steps (text_at (codes "encrypted_key") d) _ t h in
    let b = steps (header_at (codes "header") d) _ t a.2 in
    subst (IsRecipient n) (same_answer _ t b.2)
    (record { header = header_shallow n (codes "header") d b.0 some is b.1; encrypted_key = text_octets (codes "encrypted_key") d a.0 is.json a.1 })

objects_by : (d : Data) (o : Option Data) (items : Items) → IsShallow 127 d → get (codes "recipients") d ≡ o → recipients_by d o ≡ Ok items → AreObjects items
objects_by d None items is e h = subst AreObjects (same_answer _ items h) (alone d is)
objects_by d (Some list) items is e h =
    let a = steps (no_recipient_at d) _ items h in
    listed (codes "recipients") d list items is e a.2

objects_are : (d : Data) (items : Items) → IsShallow 127 d → recipient_objects d ≡ Ok items → AreObjects items
unfolding recipient_objects
objects_are d items is h = objects_by d (get (codes "recipients") d) items is refl h

pub json_are : (detached : Option (List ℕ)) → AreOctetsHandedIn detached → (d : Data) (t : JweParts) → IsShallow 127 d
    → encoded_in_json detached d ≡ Ok t → AreTexts t
unfolding encoded_in_json
json_are detached handed d t is h =
    let a = steps (text_at (codes "protected") d) _ t h in
    let b = steps (header_at (codes "unprotected") d) _ t a.2 in
    let c = steps (text_at (codes "aad") d) _ t b.2 in
    let e = steps (recipient_objects d) _ t c.2 in
    let f = steps (each_item encoded_recipient e.0) _ t e.2 in
    let i = steps (text_at (codes "iv") d) _ t f.2 in
    let j = steps (content_text detached (codes "ciphertext") d) _ t i.2 in
    let k = steps (text_at (codes "tag") d) _ t j.2 in
    let recipients = each_is IsRecipient encoded_recipient (recipient_is) e.0 f.0 (objects_are d e.0 is e.1) f.1 in
    subst AreTexts (same_answer _ t k.2)
    (record {
      protected = text_octets (codes "protected") d a.0 is.json a.1;
      unprotected = header_shallow header_depth (codes "unprotected") d b.0 (omega arith) is b.1;
      aad = text_octets (codes "aad") d c.0 is.json c.1;
      recipients = recipients.0;
      some = recipients.1;
      iv = text_octets (codes "iv") d i.0 is.json i.1;
      ciphertext = member_octets detached (codes "ciphertext") d j.0 handed is.json j.1;
      tag = text_octets (codes "tag") d k.0 is.json k.1;
    })

-- ---- in compact form

pub compact_are : (detached : Option (List ℕ)) → AreOctetsHandedIn detached → (text : List ℕ) (t : JweParts) → IsOctets text
    → encoded_in_compact detached text ≡ Ok t → AreTexts t
unfolding encoded_in_compact
compact_are detached handed text t octets h =
    let a = steps (split_at_dot text) _ t h in
    let b = steps (split_at_dot a.0.1) _ t a.2 in
    let c = steps (three_parts b.0.1) _ t b.2 in
    let d = steps (content_by detached c.0.1) (λ ciphertext. Ok (compact_members a.0.0 b.0.0 c.0.0 ciphertext c.0.2)) t c.2 in
    let first = split_octets text a.0 octets a.1 in
    let second = split_octets a.0.1 b.0 first.1 b.1 in
    let others = three_octets b.0.1 c.0 second.1 c.1 in
    let none : IsHeader header_depth no_members = no_header header_depth (omega arith) in
    let texts : JweParts = compact_members a.0.0 b.0.0 c.0.0 d.0 c.0.2 in
    subst AreTexts {x = texts} (same_answer texts t d.2)
    (record {
      protected = first.0;
      unprotected = none;
      aad = IsOctets-nil;
      recipients = (record { header = none; encrypted_key = second.0 }, tt);
      some = omega arith;
      iv = others.0;
      ciphertext = part_octets detached c.0.1 d.0 handed others.1 d.1;
      tag = others.2;
    })

-- ---- in either form

texts_are : (detached : Option (List ℕ)) → AreOctetsHandedIn detached → (text : List ℕ) (t : JweParts) → IsOctets text
    → encoded_jwe detached text ≡ Ok t → AreTexts t
unfolding encoded_jwe
texts_are detached handed text t octets h =
    of_text AreTexts (encoded_in_json detached) (encoded_in_compact detached) (json_are detached handed) (compact_are detached handed)
    (is_json_form text) text t octets h

-- ---- the members

-- the recipient has the header and the encrypted key that its texts spell
pub record IsSpelled (t : RecipientParts) (r : RecipientParts) : Type 0 where
  pub header : r.header ≡ t.header
  pub encrypted_key : decoded t.encrypted_key ≡ Ok r.encrypted_key

pub recipient_spelled : (t : RecipientParts) (r : RecipientParts) → decoded_recipient t ≡ Ok r → IsSpelled t r
unfolding decoded_recipient
recipient_spelled t r h =
    let a = steps (decoded t.encrypted_key) _ r h in
    subst (IsSpelled t) (same_answer _ r a.2) (record { header = refl; encrypted_key = a.1 })

-- the object has the members that its texts spell
pub record AreSpelled (t : JweParts) (parts : JweParts) : Type 0 where
  pub protected : parts.protected ≡ t.protected
  pub unprotected : parts.unprotected ≡ t.unprotected
  pub aad : decoded t.aad ≡ Ok parts.aad
  pub recipients : each decoded_recipient t.recipients ≡ Ok parts.recipients
  pub iv : decoded t.iv ≡ Ok parts.iv
  pub ciphertext : decoded t.ciphertext ≡ Ok parts.ciphertext
  pub tag : decoded t.tag ≡ Ok parts.tag

pub parts_spelled : (t : JweParts) (parts : JweParts) → decoded_members t ≡ Ok parts → AreSpelled t parts
unfolding decoded_members
parts_spelled t parts h =
    let a = steps (decoded t.aad) _ parts h in
    let b = steps (each decoded_recipient t.recipients) _ parts a.2 in
    let c = steps (decoded t.iv) _ parts b.2 in
    let d = steps (decoded t.ciphertext) _ parts c.2 in
    let e = steps (decoded t.tag) _ parts d.2 in
    subst (AreSpelled t) (same_answer _ parts e.2) (record
    { protected = refl; unprotected = refl; aad = a.1; recipients = b.1; iv = c.1; ciphertext = d.1; tag = e.1 })

-- the members of a recipient are JSON and octets
abbrev IsMade : ℕ → RecipientParts → Type 0
IsMade n r = IsHeader n r.header × IsOctets r.encrypted_key

recipient_made : (n : ℕ) (t : RecipientParts) (r : RecipientParts) → IsRecipient n t → decoded_recipient t ≡ Ok r → IsMade n r
recipient_made n t r is h =
    let spelled = recipient_spelled t r h in
    (subst (IsHeader n) (sym spelled.header) is.header, octets_of_meaning t.encrypted_key r.encrypted_key is.encrypted_key spelled.encrypted_key)

-- The members of all recipients are JSON and octets.
recipients_made : (ts : List RecipientParts) (rs : List RecipientParts) → AllByRecursion (IsRecipient (depth_of_each (length ts))) ts
    → each decoded_recipient ts ≡ Ok rs
    → AllByRecursion (IsMade (depth_of_each (length rs))) rs
recipients_made ts rs are h =
    let n : ℕ = depth_of_each (length ts) in
    let all : AllByRecursion (IsMade n) rs = all_read (IsRecipient n) (IsMade n) decoded_recipient (recipient_made n) ts rs are h in
    subst (λ k. AllByRecursion (IsMade (depth_of_each k)) rs) (sym (as_many decoded_recipient ts rs h)) all

object_made : (limits : Limits) (t : JweParts) (o : EncryptedObject) → AreTexts t → decoded_object limits t ≡ Ok o
    → (parts : JweParts) × (AreMembers parts × (built limits parts ≡ Ok o))
unfolding decoded_object built
object_made limits t o are h =
    let a = steps (needs (are_few limits (length t.recipients)) Limit) _ o h in
    let b = steps (decoded t.protected) _ o a.2 in
    let c = steps (decoded_members t) _ o b.2 in
    let parts : JweParts = c.0 in
    let spelled = parts_spelled t parts c.1 in
    let many = as_many decoded_recipient t.recipients parts.recipients spelled.recipients in
    let n : ℕ = depth_of_each (length parts.recipients) in
    let all : AllByRecursion (IsMade n) parts.recipients = recipients_made t.recipients parts.recipients are.recipients spelled.recipients in
    let unprotected : IsHeader header_depth parts.unprotected = subst (IsHeader header_depth) (sym spelled.unprotected) are.unprotected in
    let members : AreMembers parts = record {
      protected = subst IsUtf8 (sym spelled.protected) (text_is_json t.protected b.0 are.protected b.1);
      unprotected = unprotected.json;
      iv = octets_of_meaning t.iv parts.iv are.iv spelled.iv;
      aad = octets_of_meaning t.aad parts.aad are.aad spelled.aad;
      ciphertext = are.ciphertext parts.ciphertext spelled.ciphertext;
      tag = octets_of_meaning t.tag parts.tag are.tag spelled.tag;
      recipients = all_then (IsMade n) _ (λ r is. (is.0.json, is.1)) parts.recipients all;
    } in
    let shallow : headers_are_shallow parts ≡ true = and_from _ _ (le-leb _ header_depth unprotected.shallow)
    (all_pass (IsMade n) _ (λ r is. le-leb _ n is.0.shallow) parts.recipients all) in
    let whole : have_whole_numbers parts ≡ true =
    and_from _ _ (header_whole header_depth parts.unprotected unprotected)
    (all_pass (IsMade n) _ (λ r is. header_whole n r.header is.0) parts.recipients all) in
    let some : nat_le 1 (length parts.recipients) ≡ true = le-leb 1 _ (omega (arith, are.some, many)) in
    let few : are_few limits (length parts.recipients) ≡ true = ap (λ k. are_few limits k) many ∙ passed _ Limit a.0 a.1 in
    let octets : decoded parts.protected ≡ Ok b.0 = ap decoded spelled.protected ∙ b.1 in
    (parts, (members, rw (shallow, whole, some, few, octets) c.2))

pub objects_are_made : ObjectsAreMade
unfolding jwe_of
objects_are_made limits detached text o handed octets h =
    let a = steps (encoded_jwe detached text) (decoded_object limits) o h in
    let are = texts_are detached handed text a.0 octets a.1 in
    object_made limits a.0 o are a.2
