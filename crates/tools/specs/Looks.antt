-- What jose-look shows of the text of a file (docs/SPECIFICATION.md "Tools").
use Rattle.std.specs.Prelude.{ℕ, ◌==◌, ◌&&◌, ◌||◌, nat_eq, nat_le, Bool, true, false, List, [], ◌∷◌, ◌++◌, length, take, count_by, codes, is_some, if◌then◌else◌, Option, Some, None, Result, Ok, Err}
use Rattle.std.specs.List.{starts_with}
use Rattle.std.specs.Result.{result_err}
use Rattle.std.specs.Str.{str_eq_ignore_ascii_case}
use Rattle.serde_json.specs.Data.{Data}
use Rattle.serde_json.specs.Find.{get}
use Rattle.octets.specs.declared.refusal.Refusal.{Refusal}
use Rattle.octets.specs.LineEnds.{without_line_end}
use Rattle.octets.specs.Refusals.{refusal_text}
use Rattle.keys.specs.Json.{json_value}
use Rattle.keys.specs.KeySets.{key_set}
use Rattle.keys.specs.Limits.{limits}
use Rattle.objects.specs.Jws.{jws_of}
use Rattle.objects.specs.Jwe.{jwe_of}
use Rattle.objects.specs.Texts.{is_dot, is_json_form}
use Rattle.tools.specs.declared.text_kind.TextKind.{TextKind}
use Rattle.tools.specs.declared.text_kind.TextKind.TheVariants as kind
use Rattle.tools.specs.LookedKeys.{character_hint, key_lines}
use Rattle.tools.specs.LookedObjects.{cost_lines, object_line, object_lines, part_lines}
use Rattle.tools.specs.ObjectPlaces.{part_places, value_places}
use Rattle.tools.specs.Places.{where_lines}

-- ---- kinds of texts (docs/SPECIFICATION.md "Tools")

abbrev pub has : List ℕ → Data → Bool
has name value = is_some (get name value)

-- some member is one of a signature (RFC 7515 section 7.2)
abbrev pub is_signed : Data → Bool
is_signed value = has (codes "payload") value || has (codes "signatures") value || has (codes "signature") value

-- some member is one of an encrypted object alone (RFC 7516 section 7.2)
abbrev pub is_encrypted : Data → Bool
is_encrypted value = has (codes "ciphertext") value || has (codes "recipients") value || has (codes "encrypted_key") value || has (codes "iv") value
    || has (codes "tag") value

-- the kind of a JSON object, by its members
abbrev pub kind_of : Data → TextKind
kind_of value = if has (codes "keys") value then kind.Set
    else if has (codes "kty") value || has (codes "k") value then kind.Key
    else if is_signed value then (if has (codes "payload") value then kind.Signed else kind.SignedDetached)
    else if is_encrypted value then (if has (codes "ciphertext") value then kind.Encrypted else kind.EncryptedDetached)
    else kind.OtherObject

-- the kind of a text that is in no JSON form, by its dots
abbrev pub kind_by_dots : ℕ → TextKind
kind_by_dots dots = if dots == 2 then kind.Signed else if dots == 4 then kind.Encrypted else kind.Neither

abbrev pub kind_text : TextKind → List ℕ
kind_text kind.Set = codes "a set of keys"
kind_text kind.Key = codes "a key"
kind_text kind.Signed = codes "a signed object"
kind_text kind.SignedDetached = codes "a signed object, and its payload is another file"
kind_text kind.Encrypted = codes "an encrypted object"
kind_text kind.EncryptedDetached = codes "an encrypted object, and its ciphertext is another file"
kind_text kind.OtherObject = codes "a JSON object, but no key and no object of jose"
kind_text kind.NoJson = codes "a text in braces"
kind_text kind.Neither = codes "no key and no object"

-- why jose refuses a text of this kind; a content that is another file is taken as empty
abbrev pub refusal_by : TextKind → List ℕ → Option Refusal
refusal_by kind.Set text = result_err (key_set limits text false)
refusal_by kind.Key text = result_err (key_set limits text false)
refusal_by kind.Signed text = result_err (jws_of limits None text)
refusal_by kind.SignedDetached text = result_err (jws_of limits (Some []) text)
refusal_by kind.Encrypted text = result_err (jwe_of limits None text)
refusal_by kind.EncryptedDetached text = result_err (jwe_of limits (Some []) text)
refusal_by kind.OtherObject text = None
refusal_by kind.NoJson text = result_err (json_value text)
refusal_by kind.Neither text = None

-- ---- the first line (docs/SPECIFICATION.md "Tools")

abbrev pub refused_text : Option Refusal → List ℕ
refused_text None = []
refused_text (Some refusal) = codes ", which jose refuses: " ++ refusal_text refusal

abbrev pub title : List ℕ → TextKind → Option Refusal → List ℕ
title name kind refusal = name ++ codes ": " ++ kind_text kind ++ refused_text refusal

-- it begins with the word of an HTTP header (RFC 6750 section 2.1)
abbrev pub begins_with_bearer : List ℕ → Bool
begins_with_bearer text = nat_le 7 (length text) && str_eq_ignore_ascii_case (take 7 text) (codes "bearer ")

-- U+FEFF in UTF-8, which some editors write in front (RFC 3629 section 6)
abbrev pub byte_order_mark : List ℕ
byte_order_mark = 239 ∷ 187 ∷ 191 ∷ []

-- as many dots as an object in compact form has that was cut
abbrev pub has_odd_dots : List ℕ → Bool
has_odd_dots text = count_by is_dot text == 1 || count_by is_dot text == 3

-- what a text may be that is no object
abbrev pub text_hint : List ℕ → List ℕ
text_hint text = if begins_with_bearer text then codes ": it begins with Bearer"
    else if starts_with nat_eq text (codes "-----BEGIN") then codes ": it looks like a PEM file"
    else if starts_with nat_eq text byte_order_mark then codes ": it begins with a byte order mark"
    else if starts_with nat_eq text (codes "\"") || starts_with nat_eq text (codes "'") then codes ": it begins with a quotation mark"
    else if starts_with nat_eq text (codes "<") then codes ": it looks like HTML or XML"
    else if length text == 0 then codes ": it is empty"
    else if has_odd_dots text then codes ": an object in compact form has two or four dots"
    else character_hint text

abbrev pub is_neither : TextKind → Bool
is_neither kind.Neither = true
is_neither other = false

-- only what is refused has a hint
abbrev pub hint : TextKind → Option Refusal → List ℕ → List ℕ
hint kind refusal text = if is_neither kind || is_some refusal then text_hint text else []

-- ---- the lines (docs/SPECIFICATION.md "Tools")

-- the lines after the first of a JSON object of this kind
abbrev pub value_lines : TextKind → Data → List (List ℕ)
value_lines kind.Set value = key_lines value
value_lines kind.Key value = key_lines value
value_lines kind.Signed value = object_lines (codes "signatures") value
value_lines kind.SignedDetached value = object_lines (codes "signatures") value
value_lines kind.Encrypted value = object_lines (codes "recipients") value
value_lines kind.EncryptedDetached value = object_lines (codes "recipients") value
value_lines other value = object_line value ∷ []

-- all lines of a JSON object of this kind; what a password costs if it is accepted, and where it is refused if not
abbrev pub json_lines_by : TextKind → List ℕ → List ℕ → Data → List (List ℕ)
json_lines_by kind name text value = title name kind (refusal_by kind text)
    ∷ (value_lines kind value ++ cost_lines kind text ++ where_lines (refusal_by kind text) (value_places kind value))

abbrev pub json_lines : List ℕ → List ℕ → Result Data Refusal → List (List ℕ)
json_lines name text (Err refusal) = title name kind.NoJson (Some refusal) ∷ []
json_lines name text (Ok value) = json_lines_by (kind_of value) name text value

-- the lines after the first of a text of this kind that is in no JSON form
abbrev pub parts_lines : TextKind → List ℕ → List (List ℕ)
parts_lines kind.Signed part = part_lines (codes "signatures") part
parts_lines kind.Encrypted part = part_lines (codes "recipients") part
parts_lines other part = []

abbrev pub titled_lines : List ℕ → TextKind → Option Refusal → List ℕ → List (List ℕ)
titled_lines name kind refusal part = (title name kind refusal ++ hint kind refusal part) ∷ parts_lines kind part

abbrev pub compact_lines_by : TextKind → List ℕ → List ℕ → List ℕ → List (List ℕ)
compact_lines_by kind name text part =
    titled_lines name kind (refusal_by kind text) part ++ cost_lines kind text ++ where_lines (refusal_by kind text) (part_places kind part)

-- The part is the text without its line end.
abbrev pub compact_lines : List ℕ → List ℕ → List ℕ → List (List ℕ)
compact_lines name text part = compact_lines_by (kind_by_dots (count_by is_dot part)) name text part

-- the lines of a file of this name and text
abbrev pub look_lines : List ℕ → List ℕ → List (List ℕ)
look_lines name text = if is_json_form text then json_lines name text (json_value text) else compact_lines name text (without_line_end text)
