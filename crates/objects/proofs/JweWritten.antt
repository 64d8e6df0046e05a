-- Writing the texts of an encrypted object. The JSON text is the compact text of the object with its members, and a compact text is its
-- parts with dots between them.
use Rattle.std.proofs.Common.{◌≡◌, ℕ, List, [], ◌∷◌, ◌++◌, map, codes, Bool, true, false, Some, Ok, Err, refl, sym, ap, ◌∙◌, subst, append_assoc}
use Rattle.serde_json.specs.Data.{array, object, Items, Members, no_members}
use Rattle.serde_json.specs.Written.{compact_text, members_text}
use Rattle.octets.specs.declared.refusal.Refusal.{Refusal}
use Rattle.octets.specs.declared.refusal.Refusal.TheVariants.{NotCompact}
use Rattle.octets.specs.Base64url.{base64url}
use Rattle.octets.specs.Outcomes.{needs}
use Rattle.octets.proofs.Lemmas.{steps, passed, same_answer, refused_alike}
use Rattle.objects.specs.Jwe as jwe
use Rattle.objects.specs.Jwe.{JweParts, RecipientParts, EncryptedObject, recipient_members, jwe_members, compact_parts, is_compact, jwe_compact_text, jwe_text}
use Rattle.objects.specs.Code.JweWriting.{with_recipient, with_flattened, with_general, tag_by, with_tag, jwe_json, with_compact, jwe_written}
use Rattle.objects.specs.Values.{Entries, member_if_there, present, objects, text_there, header_there, content_there}
use Rattle.objects.specs.Code.Writing.{Written, nothing_written, inside}
use Rattle.objects.proofs.ListedMembers.{each_entries, listed_is}
use Rattle.objects.proofs.Members.{put_all}
use Rattle.objects.proofs.Sorted.{put_sorted}
use Rattle.objects.proofs.SpellingJwe.{recipient_entries, own_entries, entries, recipient_spelled, parts_spelled}
use Rattle.objects.proofs.WrittenMembers.{Begins, is_whole, begins_closed, begins_header, begins_text, begins_content, WritesEach, begins_list, begins_object}

-- ---- the members, in order

-- the members of one recipient, or nothing for several, before other members
abbrev flattened_before : List RecipientParts → Entries → Entries
flattened_before [] later = later
flattened_before (r ∷ []) later = (codes "encrypted_key", text_there (base64url r.encrypted_key)) ∷ (codes "header", header_there r.header) ∷ later
flattened_before (r ∷ (other ∷ rest)) later = later

abbrev list_before : List RecipientParts → Entries → Entries
list_before rs later = (codes "recipients", Some (array (objects recipient_members rs))) ∷ later

abbrev general_before : List RecipientParts → Entries → Entries
general_before [] later = list_before [] later
general_before (r ∷ []) later = later
general_before (r ∷ (other ∷ rest)) later = list_before (r ∷ (other ∷ rest)) later

abbrev last_members : JweParts → Entries
last_members p = (codes "tag", text_there (base64url p.tag)) ∷ (codes "unprotected", header_there p.unprotected) ∷ []

abbrev middle_members : JweParts → List RecipientParts → Entries
middle_members p rs = (codes "iv", text_there (base64url p.iv)) ∷ (codes "protected", text_there p.protected) ∷ general_before rs (last_members p)

abbrev in_order : Bool → JweParts → List RecipientParts → Entries
in_order detach p rs =
    (codes "aad", text_there (base64url p.aad)) ∷ (codes "ciphertext", content_there detach (base64url p.ciphertext))
    ∷ flattened_before rs (middle_members p rs)

-- The members are in this order in either form.
in_order_is : (detach : Bool) (p : JweParts) (rs : List RecipientParts)
    → in_order detach p rs ≡ jwe_members (content_there detach (base64url p.ciphertext)) p rs
in_order_is detach p [] = refl
in_order_is detach p (r ∷ []) = refl
in_order_is detach p (r ∷ (other ∷ rest)) = refl

same_members : (r : RecipientParts) → put_all (recipient_entries (recipient_spelled r)) ≡ present (recipient_members r)
same_members r = put_sorted (recipient_entries (recipient_spelled r)) refl

members_sorted : (detach : Bool) (p : JweParts) (rs : List RecipientParts)
    → put_all (own_entries detach (parts_spelled p) ++ each_entries (codes "recipients") recipient_entries (map recipient_spelled rs))
    ≡ present (in_order detach p rs)
members_sorted detach p [] = put_sorted (own_entries detach (parts_spelled p) ++ each_entries (codes "recipients") recipient_entries []) refl
members_sorted detach p (r ∷ []) = put_sorted (own_entries detach (parts_spelled p) ++ recipient_entries (recipient_spelled r)) refl
members_sorted detach p (r ∷ (other ∷ rest)) =
    let rs : List RecipientParts = r ∷ (other ∷ rest) in
    put_sorted (own_entries detach (parts_spelled p) ++ each_entries (codes "recipients") recipient_entries (map recipient_spelled rs)) refl
    ∙ ap (λ (items : Items). present ((codes "aad", text_there (base64url p.aad)) ∷ (codes "ciphertext", content_there detach (base64url p.ciphertext))
    ∷ (codes "iv", text_there (base64url p.iv))
    ∷ (codes "protected", text_there p.protected) ∷ (codes "recipients", Some (array items)) ∷ last_members p))
    (listed_is recipient_entries recipient_spelled recipient_members same_members rs)

-- ---- recipients

recipient_begins : (r : RecipientParts) (later : Entries) (tail : List ℕ) (w : Written) (all : List ℕ)
    → Begins w (members_text w.later (present ((codes "encrypted_key", text_there (base64url r.encrypted_key))
    ∷ (codes "header", header_there r.header) ∷ later)) ++ tail) all
    → Begins (with_recipient r w) (members_text (with_recipient r w).later (present later) ++ tail) all
recipient_begins r later tail w all b =
    let key = begins_text (codes "encrypted_key") (base64url r.encrypted_key) (present ((codes "header", header_there r.header) ∷ later)) tail w all refl b in
    begins_header (codes "header") r.header (present later) tail _ all refl key

each_begins : WritesEach with_recipient recipient_members
each_begins r tail w all b = recipient_begins r [] tail w all b

flattened_begins : (rs : List RecipientParts) (later : Entries) (tail : List ℕ) (w : Written) (all : List ℕ)
    → Begins w (members_text w.later (present (flattened_before rs later)) ++ tail) all
    → Begins (with_flattened rs w) (members_text (with_flattened rs w).later (present later) ++ tail) all
flattened_begins [] later tail w all b = b
flattened_begins (r ∷ []) later tail w all b = recipient_begins r later tail w all b
flattened_begins (r ∷ (other ∷ rest)) later tail w all b = b

general_begins : (rs : List RecipientParts) (later : Entries) (tail : List ℕ) (w : Written) (all : List ℕ)
    → Begins w (members_text w.later (present (general_before rs later)) ++ tail) all
    → Begins (with_general rs w) (members_text (with_general rs w).later (present later) ++ tail) all
general_begins [] later tail w all b = begins_list (codes "recipients") with_recipient recipient_members [] each_begins (present later) tail w all refl b
general_begins (r ∷ []) later tail w all b = b
general_begins (r ∷ (other ∷ rest)) later tail w all b =
    begins_list (codes "recipients") with_recipient recipient_members (r ∷ (other ∷ rest)) each_begins (present later) tail w all refl b

-- ---- the tag

tag_begins : (tag : List ℕ) (ms : Members) (tail : List ℕ) (w : Written) (all : List ℕ)
    → Begins w (members_text w.later (member_if_there (codes "tag") (text_there (base64url tag)) ms) ++ tail) all
    → Begins (with_tag tag w) (members_text (with_tag tag w).later ms ++ tail) all
tag_begins tag ms tail w all b =
    subst (λ places. Begins (tag_by places tag w) (members_text (tag_by places tag w).later ms ++ tail) all) (sym b.whole)
    (begins_text (codes "tag") (base64url tag) ms tail w all refl b)

-- ---- the JSON text

-- The text that is written is the text of the members.
json_is_written : (detach : Bool) (parts : JweParts) → (jwe_json false detach parts).text ≡ jwe.members_text detach parts
unfolding jwe.members_text
json_is_written detach p =
    let es : Entries = in_order detach p p.recipients in
    let all : List ℕ = compact_text (object (present es)) in
    let last : Entries = (codes "unprotected", header_there p.unprotected) ∷ [] in
    let protected_later : Entries = (codes "protected", text_there p.protected) ∷ general_before p.recipients (last_members p) in
    let flattened_later : Entries = flattened_before p.recipients (middle_members p p.recipients) in
    let aad = begins_text (codes "aad") (base64url p.aad) (present ((codes "ciphertext", content_there detach (base64url p.ciphertext)) ∷ flattened_later)) [] _
    all refl (begins_object (present es)) in
    let ciphertext = begins_content (codes "ciphertext") detach p.ciphertext (present flattened_later) [] _ all refl aad in
    let flattened = flattened_begins p.recipients (middle_members p p.recipients) [] _ all ciphertext in
    let iv = begins_text (codes "iv") (base64url p.iv) (present protected_later) [] _ all refl flattened in
    let protected = begins_text (codes "protected") p.protected (present (general_before p.recipients (last_members p))) [] _ all refl iv in
    let general = general_begins p.recipients (last_members p) [] _ all protected in
    let tag = tag_begins p.tag (present last) [] _ all general in
    is_whole _ all (begins_closed (codes "}") _ [] all (begins_header (codes "unprotected") p.unprotected no_members [] _ all refl tag))
    ∙ ap (λ es. compact_text (object (present es))) (in_order_is detach p p.recipients)

-- The text of the members does not depend on the order in which they are inserted.
pub members_are_written : (detach : Bool) (parts : JweParts)
    → jwe.members_text detach parts ≡ compact_text (object (put_all (entries detach (parts_spelled parts))))
unfolding jwe.members_text
members_are_written detach p =
    ap (λ es. compact_text (object (present es))) (sym (in_order_is detach p p.recipients))
    ∙ ap (λ ms. compact_text (object ms)) (sym (members_sorted detach p p.recipients))

-- ---- the compact text

-- The parts are written with dots between them. The part of a detached ciphertext is empty.
compact_is : (detach : Bool) (p : JweParts) → (with_compact (inside detach p.ciphertext) p (nothing_written false)).text ≡ compact_parts detach p
compact_is true p = simp append_assoc
compact_is false p = simp append_assoc

-- ---- in either form

-- The text of the object is the text that is written.
pub jwe_whole : (compact detach : Bool) (o : EncryptedObject) (w : Written) → jwe_written false compact detach o ≡ Ok w → jwe_text compact detach o ≡ Ok w.text
unfolding jwe_compact_text
jwe_whole true detach o w h =
    let fits = steps (needs (is_compact o o.recipients) NotCompact) _ w h in
    rw (passed _ NotCompact fits.0 fits.1) (ap Ok (sym (compact_is detach (jwe.parts_of o)) ∙ ap (λ (w : Written). w.text) (same_answer _ w fits.2)))
jwe_whole false detach o w h = ap Ok (sym (json_is_written detach (jwe.parts_of o)) ∙ ap (λ (w : Written). w.text) (same_answer _ w h))

-- If writing is refused, the text of the object is refused with the same cause.
pub jwe_refused : (places compact detach : Bool) (o : EncryptedObject) (e : Refusal) → jwe_written places compact detach o ≡ Err e
    → (e ≡ NotCompact) × (jwe_text compact detach o ≡ Err NotCompact)
unfolding jwe_compact_text
jwe_refused places true detach o e h = refused_alike (is_compact o o.recipients) NotCompact e _ (compact_parts detach (jwe.parts_of o)) h
jwe_refused places false detach o e h = cc h
