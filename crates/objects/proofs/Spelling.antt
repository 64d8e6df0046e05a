-- Texts and headers among the members of a JSON text: reading them returns what was inserted, and they are JSON.
use Rattle.std.proofs.Common.{◌≡◌, ℕ, List, [], ◌∷◌, true, not, nat_le, Some, None, Ok, IsUtf8, refl, ap, ◌∙◌, arith}
use Rattle.std.proofs.lemmas.Bool.{leb-true}
use Rattle.std.specs.List.{list_all}
use Rattle.std.specs.Option.{option_or, ok_or}
use Rattle.std.specs.Prelude.{option_and_then}
use Rattle.serde_json.specs.Data.{Members, no_members, member, string, object, depth}
use Rattle.serde_json.specs.Find.{as_str}
use Rattle.serde_json.specs.Written.{compact_text}
use Rattle.octets.specs.declared.refusal.Refusal.TheVariants.{Form}
use Rattle.octets.specs.Base64url.{base64url, decoded, is_url_character}
use Rattle.octets.specs.Octets.{IsOctets}
use Rattle.octets.proofs.Lemmas.{decodes_exactly, has_url_characters, octets_of_meaning}
use Rattle.keys.specs.Json.{json_value}
use Rattle.keys.specs.JsonTexts.{AreJsonMembers}
use Rattle.keys.proofs.Lemmas.{reads_back, url_texts_are_json}
use Rattle.objects.specs.Headers.{header_at, members_if_there}
use Rattle.objects.specs.Texts.{is_json_form, text_if_there, text_at, required_text, has_members, header_depth}
use Rattle.objects.specs.Values.{Entries, text_there, header_there}
use Rattle.objects.proofs.Characters.{IsUrlText}
use Rattle.objects.proofs.EachRead.{all_passed}
use Rattle.objects.proofs.Members.{put_all, first_there, get_member-put_all, IsJsonIfThere, AreJsonEntries, all_json}

-- ---- inserting texts and headers

-- A header that has no members is empty.
pub no_member : (header : Members) → not (has_members header) ≡ true → header ≡ no_members
no_member no_members h = refl
no_member (member name value rest) h = cc h

-- ---- reading

-- An absent text is read as the empty text.
text_read : (text : List ℕ) → text_if_there (option_or (text_there text) None) ≡ Ok text
text_read [] = refl
text_read (c ∷ text) = refl

-- An absent header is read as the empty header.
header_read : (header : Members) → members_if_there (option_or (header_there header) None) ≡ Ok header
header_read no_members = refl
header_read (member name value rest) = refl

-- A text is read from its member.
pub text_found : (name : List ℕ) (es : Entries) (text : List ℕ) → first_there name es ≡ option_or (text_there text) None
    → text_at name (object (put_all es)) ≡ Ok text
unfolding text_at
text_found name es text is = ap text_if_there (get_member-put_all name es ∙ is) ∙ text_read text

-- A header is read from its member.
pub header_found : (name : List ℕ) (es : Entries) (header : Members) → first_there name es ≡ option_or (header_there header) None
    → header_at name (object (put_all es)) ≡ Ok header
unfolding header_at
header_found name es header is = ap members_if_there (get_member-put_all name es ∙ is) ∙ header_read header

-- A required text is read from its member.
pub required_found : (name : List ℕ) (es : Entries) (text : List ℕ) → first_there name es ≡ Some (string text)
    → required_text name (object (put_all es)) ≡ Ok text
unfolding required_text
required_found name es text is = ap (λ o. ok_or (option_and_then as_str o) Form) (get_member-put_all name es ∙ is)

-- ---- JSON

-- A text that decodes has only letters, digits, `-` and `_`.
pub decoded_characters : (text octets : List ℕ) → IsOctets text → decoded text ≡ Ok octets → IsUrlText text
decoded_characters text octets is decodes =
    let meant : IsOctets octets = octets_of_meaning text octets is decodes in
    let spelled : text ≡ base64url octets = (decodes_exactly.meaning text octets is meant).0 decodes in
    rw spelled (has_url_characters octets meant)

-- A name of these characters is UTF-8.
pub name_is_json : (name : List ℕ) → list_all is_url_character name ≡ true → IsUtf8 name
name_is_json name h = (url_texts_are_json name (all_passed is_url_character name h)).0

-- The text of octets is UTF-8.
pub spelled_is_json : (octets : List ℕ) → IsOctets octets → IsUtf8 (base64url octets)
spelled_is_json octets is = (url_texts_are_json (base64url octets) (has_url_characters octets is)).0

-- The entry of a required text is JSON.
pub required_entry : (n : ℕ) (name text : List ℕ) → list_all is_url_character name ≡ true → IsUtf8 text → IsUtf8 name × IsJsonIfThere n (Some (string text))
required_entry n name text is h = (name_is_json name is, (h, omega arith))

-- The entry of a text that may be absent is JSON.
pub text_entry : (n : ℕ) (name text : List ℕ) → list_all is_url_character name ≡ true → IsUtf8 text → IsUtf8 name × IsJsonIfThere n (text_there text)
text_entry n name [] is h = (name_is_json name is, tt)
text_entry n name (c ∷ text) is h = required_entry n name (c ∷ text) is h

-- The entry of a header is JSON, if the header is and is not too deep.
pub header_entry : (n : ℕ) (name : List ℕ) (header : Members) → list_all is_url_character name ≡ true → AreJsonMembers header
    → nat_le (depth (object header)) n ≡ true
    → IsUtf8 name × IsJsonIfThere n (header_there header)
header_entry n name no_members is json shallow = (name_is_json name is, tt)
header_entry n name (member k d rest) is json shallow = (name_is_json name is, (json, leb-true _ n shallow))

-- ---- the whole text

-- The text of an object has JSON form.
pub object_form : (ms : Members) → is_json_form (compact_text (object ms)) ≡ true
unfolding is_json_form
object_form ms = refl

-- The text reads as the object of its members.
pub object_value : (es : Entries) → AreJsonEntries header_depth es → json_value (compact_text (object (put_all es))) ≡ Ok (object (put_all es))
object_value es is =
    let json = all_json header_depth es is in
    reads_back (object (put_all es)) json.0 (omega (arith, json.1))
