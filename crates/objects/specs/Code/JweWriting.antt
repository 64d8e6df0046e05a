-- How the code writes the text of an encrypted object, with its ciphertext and tag or with places left for them. Without places it is the
-- text that specs/Jwe.antt defines.
use Rattle.std.specs.Prelude.{ℕ, Bool, true, false, List, [], ◌∷◌, codes, Option, Result, Ok}
use Rattle.octets.specs.declared.refusal.Refusal.{Refusal}
use Rattle.octets.specs.declared.refusal.Refusal.TheVariants.{NotCompact}
use Rattle.octets.specs.Base64url.{base64url}
use Rattle.octets.specs.Outcomes.{◌>>=◌, needs}
use Rattle.objects.specs.Jwe.{RecipientParts, JweParts, EncryptedObject, parts_of, key_of_first, is_compact}
use Rattle.objects.specs.Code.Writing.{Written, nothing_written, pushed, opened, closed, with_text, with_header, with_place, with_content, inside, with_list, with_part, with_place_part, with_content_part}

-- the header and the encrypted key of a recipient (RFC 7516 section 7.2)
abbrev pub with_recipient : RecipientParts → Written → Written
with_recipient r w = with_header (codes "header") r.header (with_text (codes "encrypted_key") (base64url r.encrypted_key) w)

-- one recipient is next to the other members (section 7.2.2)
abbrev pub with_flattened : List RecipientParts → Written → Written
with_flattened [] w = w
with_flattened (r ∷ []) w = with_recipient r w
with_flattened (r ∷ (other ∷ rest)) w = w

-- several, or none, are a list (section 7.2.1)
abbrev pub with_general : List RecipientParts → Written → Written
with_general [] w = with_list (codes "recipients") with_recipient [] w
with_general (r ∷ []) w = w
with_general (r ∷ (other ∷ rest)) w = with_list (codes "recipients") with_recipient (r ∷ (other ∷ rest)) w

-- a place for the tag, or its text if it is not empty
abbrev pub tag_by : Bool → List ℕ → Written → Written
tag_by true tag w = with_place (codes "tag") tag w
tag_by false tag w = with_text (codes "tag") (base64url tag) w

abbrev pub with_tag : List ℕ → Written → Written
with_tag tag w = tag_by w.places tag w

-- the members, in byte order of their names
abbrev pub with_members : Option (List ℕ) → JweParts → Written → Written
with_members ciphertext parts w =
    with_header (codes "unprotected") parts.unprotected (
    with_tag parts.tag (
    with_general parts.recipients (
    with_text (codes "protected") parts.protected (
    with_text (codes "iv") (base64url parts.iv) (
    with_flattened parts.recipients (
    with_content (codes "ciphertext") ciphertext (
    with_text (codes "aad") (base64url parts.aad) w)))))))

-- Their JSON text: flattened if there is one recipient, and else general. A detached ciphertext is not in it.
abbrev pub jwe_json : Bool → Bool → JweParts → Written
jwe_json places detach parts = closed (codes "}") (with_members (inside detach parts.ciphertext) parts (opened (codes "{") (nothing_written places)))

-- the parts of a compact text (RFC 7516 section 7.1), with the encrypted key of the first recipient
abbrev pub with_compact : Option (List ℕ) → JweParts → Written → Written
with_compact ciphertext parts w =
    with_place_part parts.tag (
    with_content_part ciphertext (
    with_part parts.iv (
    with_part (key_of_first parts.recipients) (
    pushed parts.protected w))))

-- the compact text, if it can hold the object, or the JSON text (RFC 7516 section 7)
abbrev pub jwe_written : Bool → Bool → Bool → EncryptedObject → Result Written Refusal
jwe_written places true detach o = do
  fits ← needs (is_compact o o.recipients) NotCompact
  Ok (with_compact (inside detach o.ciphertext) (parts_of o) (nothing_written places))
jwe_written places false detach o = Ok (jwe_json places detach (parts_of o))
