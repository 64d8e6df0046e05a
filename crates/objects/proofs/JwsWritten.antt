-- Writing the texts of a signed object. The JSON text is the compact text of the object with its members, and a compact text is its parts
-- with dots between them.
use Rattle.std.proofs.Common.{◌≡◌, ℕ, List, [], ◌∷◌, ◌++◌, codes, Bool, true, false, None, Some, Ok, Err, refl, sym, ap, ◌∙◌, append_assoc}
use Rattle.serde_json.specs.Data.{Data, string, array, object, Members, no_members, member}
use Rattle.serde_json.specs.Written.{compact_text, members_text}
use Rattle.octets.specs.declared.refusal.Refusal.{Refusal}
use Rattle.octets.specs.declared.refusal.Refusal.TheVariants.{NotCompact}
use Rattle.octets.specs.Base64url.{base64url}
use Rattle.octets.specs.Outcomes.{needs}
use Rattle.octets.proofs.Lemmas.{steps, passed, same_answer, refused_alike}
use Rattle.objects.specs.Jws as jws
use Rattle.objects.specs.Jws.{JwsParts, SignatureParts, SignedObject, signature_members, general_members, jws_members, compact_parts, is_compact, jws_compact_text, jws_text}
use Rattle.objects.specs.Code.JwsWriting.{with_signature, with_signatures, with_compact, with_general, jws_json, jws_written}
use Rattle.objects.specs.Values.{Entries, present, objects, text_there, content_there}
use Rattle.objects.specs.Code.Writing.{Written, nothing_written, opened, inside}
use Rattle.objects.proofs.ListedMembers.{listed_is}
use Rattle.objects.proofs.Members.{put_all}
use Rattle.objects.proofs.Sorted.{put_sorted}
use Rattle.objects.proofs.SpellingJws.{signature_entries, entries, signature_spelled, parts_spelled}
use Rattle.objects.proofs.WrittenMembers.{Begins, is_whole, begins_closed, begins_header, begins_text, begins_place, begins_content, WritesEach, begins_list, begins_object}

-- ---- the JSON text

signature_begins : (detach : Bool) (payload : List ℕ) (s : SignatureParts) (tail : List ℕ) (w : Written) (all : List ℕ)
    → Begins w (members_text w.later (present (signature_members (content_there detach (base64url payload)) s)) ++ tail) all
    → Begins (with_signature (inside detach payload) s w) (codes "}" ++ tail) all
signature_begins detach payload s tail w all b =
    let last : Entries = (codes "signature", Some (string (base64url s.signature))) ∷ [] in
    let later : Entries = (codes "protected", text_there s.protected) ∷ last in
    let header = begins_header (codes "header") s.header (present ((codes "payload", content_there detach (base64url payload)) ∷ later)) tail w all refl b in
    let content = begins_content (codes "payload") detach payload (present later) tail _ all refl header in
    let protected = begins_text (codes "protected") s.protected (present last) tail _ all refl content in
    begins_place (codes "signature") s.signature no_members tail _ all refl protected

-- Each signature of a list is written as its members.
each_begins : WritesEach (with_signature None) (signature_members None)
each_begins s tail w all b = signature_begins true [] s tail w all b

-- After the opening brace of the object, its members are still to be written.
general_begins : (detach : Bool) (payload : List ℕ) (ss : List SignatureParts)
    → Begins (with_general (inside detach payload) ss (opened (codes "{") (nothing_written false))) (codes "}")
    (compact_text (object (present (general_members (content_there detach (base64url payload)) ss))))
general_begins detach payload ss =
    let list : Data = array (objects (signature_members None) ss) in
    let ms : Members = present (general_members (content_there detach (base64url payload)) ss) in
    let content = begins_content (codes "payload") detach payload (member (codes "signatures") list no_members) [] _ _ refl (begins_object ms) in
    begins_list (codes "signatures") (with_signature None) (signature_members None) ss each_begins no_members [] _ _ refl content

signatures_begin : (detach : Bool) (payload : List ℕ) (ss : List SignatureParts)
    → Begins (with_signatures (inside detach payload) ss (opened (codes "{") (nothing_written false))) (codes "}")
    (compact_text (object (present (jws_members (content_there detach (base64url payload)) ss))))
signatures_begin detach payload [] = general_begins detach payload []
signatures_begin detach payload (s ∷ []) =
    signature_begins detach payload s [] _ _ (begins_object (present (signature_members (content_there detach (base64url payload)) s)))
signatures_begin detach payload (s ∷ (other ∷ rest)) = general_begins detach payload (s ∷ (other ∷ rest))

-- The text that is written is the text of the members.
json_is_written : (detach : Bool) (parts : JwsParts) → (jws_json false detach parts).text ≡ jws.members_text detach parts
unfolding jws.members_text
json_is_written detach parts = is_whole _ _ (begins_closed (codes "}") _ [] _ (signatures_begin detach parts.payload parts.signatures))

-- The members of a signature are in order.
same_members : (s : SignatureParts) → put_all (signature_entries (signature_spelled s)) ≡ present (signature_members None s)
same_members s = put_sorted (signature_entries (signature_spelled s)) refl

members_sorted : (detach : Bool) (payload : List ℕ) (ss : List SignatureParts)
    → put_all (entries detach (parts_spelled (record { payload = payload; signatures = ss })))
    ≡ present (jws_members (content_there detach (base64url payload)) ss)
members_sorted detach payload [] = put_sorted (entries detach (parts_spelled (record { payload = payload; signatures = [] }))) refl
members_sorted detach payload (s ∷ []) = put_sorted (entries detach (parts_spelled (record { payload = payload; signatures = s ∷ [] }))) refl
members_sorted detach payload (s ∷ (other ∷ rest)) =
    let ss : List SignatureParts = s ∷ (other ∷ rest) in
    put_sorted (entries detach (parts_spelled (record { payload = payload; signatures = ss }))) refl
    ∙ ap (λ items. present ((codes "payload", content_there detach (base64url payload)) ∷ (codes "signatures", Some (array items)) ∷ []))
    (listed_is signature_entries signature_spelled (signature_members None) same_members ss)

-- The text of the members does not depend on the order in which they are inserted.
pub members_are_written : (detach : Bool) (parts : JwsParts)
    → jws.members_text detach parts ≡ compact_text (object (put_all (entries detach (parts_spelled parts))))
unfolding jws.members_text
members_are_written detach parts = ap (λ ms. compact_text (object ms)) (sym (members_sorted detach parts.payload parts.signatures))

-- ---- the compact text

compact_is : (detach : Bool) (payload : List ℕ) (ss : List SignatureParts)
    → (with_compact (inside detach payload) ss (nothing_written false)).text ≡ compact_parts detach payload ss
compact_is detach payload [] = refl
compact_is true payload (s ∷ rest) = simp append_assoc
compact_is false payload (s ∷ rest) = simp append_assoc

-- ---- in either form

-- The text of the object is the text that is written.
pub jws_whole : (compact detach : Bool) (o : SignedObject) (w : Written) → jws_written false compact detach o ≡ Ok w → jws_text compact detach o ≡ Ok w.text
unfolding jws_compact_text
jws_whole true detach o w h =
    let fits = steps (needs (is_compact o.signatures) NotCompact) _ w h in
    rw (passed _ NotCompact fits.0 fits.1) (ap Ok (sym (compact_is detach o.payload (jws.parts_of o).signatures)
    ∙ ap (λ (w : Written). w.text) (same_answer _ w fits.2)))
jws_whole false detach o w h = ap Ok (sym (json_is_written detach (jws.parts_of o)) ∙ ap (λ (w : Written). w.text) (same_answer _ w h))

-- If writing is refused, the text of the object is refused with the same cause.
pub jws_refused : (places compact detach : Bool) (o : SignedObject) (e : Refusal) → jws_written places compact detach o ≡ Err e
    → (e ≡ NotCompact) × (jws_text compact detach o ≡ Err NotCompact)
unfolding jws_compact_text
jws_refused places true detach o e h = refused_alike (is_compact o.signatures) NotCompact e _ (compact_parts detach o.payload (jws.parts_of o).signatures) h
jws_refused places false detach o e h = cc h
