-- A signed object that is read can be made of its members.
use Rattle.std.proofs.Common.{◌≡◌, ◌≤◌, ℕ, suc, List, length, map, codes, true, nat_le, Option, Some, None, Ok, IsUtf8, refl, sym, ap, ◌∙◌, subst, arith}
use Rattle.std.proofs.lemmas.Bool.{le-leb}
use Rattle.std.proofs.lemmas.List.{length-map}
use Rattle.std.specs.List.{AllByRecursion}
use Rattle.serde_json.specs.Data.{Data, Items}
use Rattle.serde_json.specs.Find.{get}
use Rattle.octets.specs.declared.refusal.Refusal.TheVariants.{Limit}
use Rattle.octets.specs.Base64url.{decoded}
use Rattle.octets.specs.Octets.{IsOctets}
use Rattle.octets.specs.Outcomes.{◌>>=◌, needs}
use Rattle.keys.specs.Limits.{Limits, are_few}
use Rattle.objects.specs.Headers.{header_at}
use Rattle.objects.specs.Jws.{SignatureParts, JwsParts, DecodedSignature, SignedObject, encoded_signature, no_signature_at, signatures_by, signature_objects, encoded_in_json, encoded_in_compact, encoded_jws, decoded_part, decoded_signature, decoded_object, jws_of, nest_at_most, have_whole_numbers, built, AreMembers, ObjectsAreMade}
use Rattle.objects.specs.Texts.{each, each_item, is_json_form, three_parts, text_at, required_text, content_by, content_text, AreOctetsHandedIn, depth_of_each}
use Rattle.objects.proofs.DetachedContent.{MeansOctets, part_octets, member_octets}
use Rattle.objects.proofs.Each.{as_many}
use Rattle.objects.proofs.EachRead.{all_read, read_again, all_pass, all_then, all_images}
use Rattle.objects.proofs.Joined.{three_octets}
use Rattle.objects.proofs.ReadJson.{text_is_json, IsShallow, IsHeader, AreObjects, no_header, header_whole, text_octets, required_octets, header_shallow, alone, listed, each_is, of_text}
use Rattle.octets.proofs.Lemmas.{steps, passed, same_answer, octets_of_meaning}

-- ---- the headers are JSON and the texts are octets, except that of the payload, which decodes to octets

pub record IsSignature (n : ℕ) (t : SignatureParts) : Type 0 where
  pub protected : IsOctets t.protected
  pub header : IsHeader n t.header
  pub signature : IsOctets t.signature

pub record AreTexts (t : JwsParts) : Type 0 where
  pub payload : MeansOctets t.payload
  pub signatures : AllByRecursion (IsSignature (depth_of_each (length t.signatures))) t.signatures
  pub some : 1 ≤ length t.signatures

-- ---- in JSON form

signature_is : (n : ℕ) (d : Data) (t : SignatureParts) → 1 ≤ n → IsShallow (suc n) d → encoded_signature d ≡ Ok t → IsSignature n t
unfolding encoded_signature
signature_is n d t some is h =
    let a = steps (text_at (codes "protected") d) _ t h in
    let b = steps (header_at (codes "header") d) _ t a.2 in
    let c = steps (required_text (codes "signature") d) _ t b.2 in
    subst (IsSignature n) (same_answer _ t c.2)
    (record {
      protected = text_octets (codes "protected") d a.0 is.json a.1;
      header = header_shallow n (codes "header") d b.0 some is b.1;
      signature = required_octets (codes "signature") d c.0 is.json c.1;
    })

objects_by : (d : Data) (o : Option Data) (items : Items) → IsShallow 127 d → get (codes "signatures") d ≡ o → signatures_by d o ≡ Ok items → AreObjects items
objects_by d None items is e h = subst AreObjects (same_answer _ items h) (alone d is)
objects_by d (Some list) items is e h =
    let a = steps (no_signature_at d) _ items h in
    listed (codes "signatures") d list items is e a.2

objects_are : (d : Data) (items : Items) → IsShallow 127 d → signature_objects d ≡ Ok items → AreObjects items
unfolding signature_objects
objects_are d items is h = objects_by d (get (codes "signatures") d) items is refl h

pub json_are : (detached : Option (List ℕ)) → AreOctetsHandedIn detached → (d : Data) (t : JwsParts) → IsShallow 127 d
    → encoded_in_json detached d ≡ Ok t → AreTexts t
unfolding encoded_in_json
json_are detached handed d t is h =
    let a = steps (content_text detached (codes "payload") d) _ t h in
    let b = steps (signature_objects d) _ t a.2 in
    let c = steps (each_item encoded_signature b.0) _ t b.2 in
    let signatures = each_is IsSignature encoded_signature (signature_is) b.0 c.0 (objects_are d b.0 is b.1) c.1 in
    subst AreTexts (same_answer _ t c.2)
    (record { payload = member_octets detached (codes "payload") d a.0 handed is.json a.1; signatures = signatures.0; some = signatures.1 })

-- ---- in compact form

pub compact_are : (detached : Option (List ℕ)) → AreOctetsHandedIn detached → (text : List ℕ) (t : JwsParts) → IsOctets text
    → encoded_in_compact detached text ≡ Ok t → AreTexts t
unfolding encoded_in_compact
compact_are detached handed text t octets h =
    let a = steps (three_parts text) _ t h in
    let b = steps (content_by detached a.0.1) _ t a.2 in
    let parts = three_octets text a.0 octets a.1 in
    subst AreTexts (same_answer _ t b.2)
    (record {
      payload = part_octets detached a.0.1 b.0 handed parts.1 b.1;
      signatures = (record { protected = parts.0; header = no_header 126 (omega arith); signature = parts.2 }, tt);
      some = omega arith;
    })

-- ---- in either form

texts_are : (detached : Option (List ℕ)) → AreOctetsHandedIn detached → (text : List ℕ) (t : JwsParts) → IsOctets text
    → encoded_jws detached text ≡ Ok t → AreTexts t
unfolding encoded_jws
texts_are detached handed text t octets h =
    of_text AreTexts (encoded_in_json detached) (encoded_in_compact detached) (json_are detached handed) (compact_are detached handed)
    (is_json_form text) text t octets h

-- ---- the members

-- the signature has the members that its texts spell, and is decoded from them the same
pub record IsSpelled (t : SignatureParts) (s : DecodedSignature) : Type 0 where
  pub protected : s.parts.protected ≡ t.protected
  pub header : s.parts.header ≡ t.header
  pub signature : decoded t.signature ≡ Ok s.parts.signature
  pub again : decoded_part s.parts ≡ Ok s

pub signature_spelled : (t : SignatureParts) (s : DecodedSignature) → decoded_signature t ≡ Ok s → IsSpelled t s
unfolding decoded_signature decoded_part
signature_spelled t s h =
    let a = steps (decoded t.signature) _ s h in
    let b = steps (decoded t.protected) _ s a.2 in
    let parts : SignatureParts = record { protected = t.protected; header = t.header; signature = a.0 } in
    subst (IsSpelled t) (same_answer _ s b.2) (record {
      protected = refl;
      header = refl;
      signature = a.1;
      again = ap (λ r. r >>= λ octets. Ok (record { octets = octets; parts = parts })) b.1;
    })

-- the members of a signature are JSON and octets
abbrev IsMade : ℕ → SignatureParts → Type 0
IsMade n s = IsUtf8 s.protected × IsHeader n s.header × IsOctets s.signature

signature_made : (n : ℕ) (t : SignatureParts) (s : DecodedSignature) → IsSignature n t → decoded_signature t ≡ Ok s → IsMade n s.parts
unfolding decoded_part
signature_made n t s is h =
    let spelled = signature_spelled t s h in
    let own = steps (decoded s.parts.protected) _ s spelled.again in (
      text_is_json s.parts.protected own.0 (subst IsOctets (sym spelled.protected) is.protected) own.1,
      subst (IsHeader n) (sym spelled.header) is.header,
      octets_of_meaning t.signature s.parts.signature is.signature spelled.signature,
    )

object_made : (limits : Limits) (t : JwsParts) (o : SignedObject) → AreTexts t → decoded_object limits t ≡ Ok o
    → (parts : JwsParts) × (AreMembers parts × (built limits parts ≡ Ok o))
unfolding decoded_object built
object_made limits t o are h =
    let a = steps (needs (are_few limits (length t.signatures)) Limit) _ o h in
    let b = steps (decoded t.payload) _ o a.2 in
    let c = steps (each decoded_signature t.signatures) _ o b.2 in
    let members_of : DecodedSignature → SignatureParts = λ s. s.parts in
    let signatures : List SignatureParts = map members_of c.0 in
    let many : length signatures ≡ length t.signatures = length-map c.0 members_of ∙ as_many decoded_signature t.signatures c.0 c.1 in
    let n : ℕ = depth_of_each (length signatures) in
    let texts : AllByRecursion (IsSignature n) t.signatures =
    subst (λ k. AllByRecursion (IsSignature (depth_of_each k)) t.signatures) (sym many) are.signatures in
    let all : AllByRecursion (IsMade n) signatures =
    all_images (IsMade n) members_of (λ s is. is) c.0 (all_read (IsSignature n) (λ s. IsMade n s.parts) decoded_signature
    (signature_made n) t.signatures c.0 texts c.1) in
    let members : AreMembers (record { payload = b.0; signatures = signatures }) = record {
      payload = are.payload b.0 b.1;
      signatures = all_then (IsMade n) _ (λ s is. (is.0, (is.1.json, is.2))) signatures all;
    } in
    let shallow : nest_at_most n signatures ≡ true = all_pass (IsMade n) _ (λ s is. le-leb _ n is.1.shallow) signatures all in
    let whole : have_whole_numbers signatures ≡ true = all_pass (IsMade n) _ (λ s is. header_whole n s.header is.1) signatures all in
    let some : nat_le 1 (length signatures) ≡ true = le-leb 1 _ (omega (arith, are.some, many)) in
    let few : are_few limits (length signatures) ≡ true = ap (λ k. are_few limits k) many ∙ passed _ Limit a.0 a.1 in
    let again : each decoded_part signatures ≡ Ok c.0 =
    read_again decoded_signature members_of decoded_part (λ t s h. (signature_spelled t s h).again) t.signatures c.0 c.1 in
    (record { payload = b.0; signatures = signatures }, (members, rw (shallow, whole, some, few, again) c.2))

pub objects_are_made : ObjectsAreMade
unfolding jws_of
objects_are_made limits detached text o handed octets h =
    let a = steps (encoded_jws detached text) (decoded_object limits) o h in
    let are = texts_are detached handed text a.0 octets a.1 in
    object_made limits a.0 o are a.2
