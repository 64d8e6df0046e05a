-- The texts of JWS and JWE objects (RFC 7515 section 7, RFC 7516 section 7): their form, the parts of a compact text, the members of a JSON
-- text, and a content that is detached.
use Rattle.std.specs.Prelude.{ℕ, ◌+◌, ◌==◌, ◌||◌, ◌&&◌, Bool, true, false, not, List, [], ◌∷◌, ◌++◌, take, drop, is_none, position, nat_le, if◌then◌else◌, Option, Some, None, option_and_then, IfSome, Result, Ok, Err}
use Rattle.std.specs.List.{find}
use Rattle.std.specs.Option.{ok_or}
use Rattle.std.specs.Result.{result_unwrap_or}
use Rattle.std.specs.Str.{byte}
use Rattle.serde_json.specs.Data.{Data, Items, no_items, item, Members, no_members, member}
use Rattle.serde_json.specs.Find.{get, as_str, as_array}
use Rattle.octets.specs.declared.refusal.Refusal.{Refusal}
use Rattle.octets.specs.declared.refusal.Refusal.TheVariants.{Form}
use Rattle.octets.specs.Outcomes.{◌>>=◌, needs}
use Rattle.octets.specs.Base64url.{base64url}
use Rattle.octets.specs.Octets.{IsOctets}
use Rattle.keys.specs.KeySets.{are_objects}

-- ---- each of a list (docs/SPECIFICATION.md "Objects", the order of causes)

-- the results of reading each, in order, or the first refusal
abbrev pub each : {X Y : Type 0} → (X → Result Y Refusal) → List X → Result (List Y) Refusal
each read [] = Ok []
each read (x ∷ rest) = do
  first ← read x
  others ← each read rest
  Ok (first ∷ others)

-- the same for the items of a JSON list
abbrev pub each_item : {Y : Type 0} → (Data → Result Y Refusal) → Items → Result (List Y) Refusal
each_item read no_items = Ok []
each_item read (item x rest) = do
  first ← read x
  others ← each_item read rest
  Ok (first ∷ others)

-- ---- the form of a text (docs/SPECIFICATION.md "Objects")

-- white space of JSON (RFC 8259 section 2)
abbrev pub is_json_space : ℕ → Bool
is_json_space c = c == byte " " || c == byte "\t" || c == byte "\n" || c == byte "\r"

abbrev pub is_brace : Option ℕ → Bool
is_brace None = false
is_brace (Some c) = c == byte "{"

-- the text is in JSON form: it begins with a brace, after any white space
unfoldable pub is_json_form : List ℕ → Bool
is_json_form text = is_brace (find (λ c. not (is_json_space c)) text)

-- ---- the parts of a compact text (RFC 7515 section 7.1, RFC 7516 section 7.1)

abbrev pub is_dot : ℕ → Bool
is_dot c = c == byte "."

-- the texts before and after the first dot
unfoldable pub split_at_dot : List ℕ → Result (List ℕ × List ℕ) Refusal
split_at_dot text = do
  i ← ok_or (position is_dot text) Form
  Ok (take i text, drop (i + 1) text)

-- exactly three parts between dots
unfoldable pub three_parts : List ℕ → Result (List ℕ × List ℕ × List ℕ) Refusal
three_parts text = do
  first ← split_at_dot text
  second ← split_at_dot first.1
  last ← needs (is_none (position is_dot second.1)) Form
  Ok (first.0, second.0, second.1)

-- parts with dots between them
abbrev pub between_dots : List (List ℕ) → List ℕ
between_dots [] = []
between_dots (part ∷ []) = part
between_dots (part ∷ (next ∷ rest)) = part ++ byte "." ∷ between_dots (next ∷ rest)

-- ---- the members of a JSON text (RFC 7515 section 7.2, RFC 7516 section 7.2)

abbrev pub text_if_there : Option Data → Result (List ℕ) Refusal
text_if_there None = Ok []
text_if_there (Some value) = ok_or (as_str value) Form

-- a string, or the empty text if it is absent
unfoldable pub text_at : List ℕ → Data → Result (List ℕ) Refusal
text_at name value = text_if_there (get name value)

-- a string that must be there
unfoldable pub required_text : List ℕ → Data → Result (List ℕ) Refusal
required_text name value = ok_or (option_and_then as_str (get name value)) Form

abbrev pub has_text : List ℕ → Bool
has_text [] = false
has_text (c ∷ text) = true

-- ---- the content, which may be handed in with the object (RFC 7515 appendix F; for a ciphertext docs/SPECIFICATION.md "Objects")

-- the text of a content: that of the object, or of the content that was handed in, and then the object must have none
abbrev pub content_by : Option (List ℕ) → List ℕ → Result (List ℕ) Refusal
content_by None text = Ok text
content_by (Some content) text = do
  empty ← needs (not (has_text text)) Form
  Ok (base64url content)

-- the text of a content in a member, which must be there if no content was handed in
abbrev pub content_text : Option (List ℕ) → List ℕ → Data → Result (List ℕ) Refusal
content_text None name value = required_text name value
content_text (Some content) name value = text_at name value >>= content_by (Some content)

-- the text of a content in a compact text, or nothing if it is detached
abbrev pub kept : Bool → List ℕ → List ℕ
kept false text = text
kept true text = []

-- the content that is handed in with an object, if it is detached
abbrev pub handed_in : Bool → List ℕ → Option (List ℕ)
handed_in false content = None
handed_in true content = Some content

-- a content that is handed in is octets
abbrev pub AreOctetsHandedIn : Option (List ℕ) → Type 0
AreOctetsHandedIn detached = IfSome detached IsOctets

-- the content that is written apart from the text, if it is detached
abbrev pub handed_out : Bool → List ℕ → List ℕ
handed_out false content = []
handed_out true content = content

-- ---- what a text begins with, whatever its content is (docs/SPECIFICATION.md "Commands", what is left after a refusal)

-- the longest list with which both begin
abbrev pub common_beginning : List ℕ → List ℕ → List ℕ
common_beginning [] ys = []
common_beginning (x ∷ xs) [] = []
common_beginning (x ∷ xs) (y ∷ ys) = if x == y then x ∷ common_beginning xs ys else []

-- The text before the content is what the texts with the contents 0 and 255 have in common, since their base64url texts, AA and _w, differ
-- from the first character on. It is empty if there are no texts.
abbrev pub before_content : (List ℕ → Result (List ℕ) Refusal) → List ℕ
before_content text_of = common_beginning (result_unwrap_or (text_of (0 ∷ [])) []) (result_unwrap_or (text_of (255 ∷ [])) [])

-- ---- lists (RFC 7515 section 7.2.1, RFC 7516 section 7.2.1)

abbrev pub has_items : Items → Bool
has_items no_items = false
has_items (item value values) = true

-- a list of at least one object
unfoldable pub object_list : Data → Result Items Refusal
object_list value = do
  items ← ok_or (as_array value) Form
  objects ← needs (has_items items && are_objects items) Form
  Ok items

abbrev pub has_members : Members → Bool
has_members no_members = false
has_members (member k d rest) = true

-- ---- how deep a header may nest (docs/SPECIFICATION.md "Octets and texts")

-- A text may nest 127 deep, and so a header in it one less.
abbrev pub header_depth : ℕ
header_depth = 126

-- a header in a list of objects is two deeper in the text
abbrev pub listed_header_depth : ℕ
listed_header_depth = 124

-- the depth for each of n headers
abbrev pub depth_of_each : ℕ → ℕ
depth_of_each n = if nat_le n 1 then header_depth else listed_header_depth
