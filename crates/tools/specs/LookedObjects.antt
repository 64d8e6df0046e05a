-- The lines that jose-look shows of signed and encrypted objects (docs/SPECIFICATION.md "Tools").
use Rattle.std.specs.Prelude.{ℕ, ◌+◌, ◌==◌, List, [], ◌∷◌, ◌++◌, length, take, position, codes, decimal, if◌then◌else◌, Option, Some, None, option_and_then, Result, Ok, Err}
use Rattle.serde_json.specs.Data.{Data, Items, no_items, item}
use Rattle.serde_json.specs.Find.{get, as_str, as_array}
use Rattle.octets.specs.declared.refusal.Refusal.{Refusal}
use Rattle.octets.specs.Base64url.{decoded}
use Rattle.octets.specs.Outcomes.{◌>>=◌}
use Rattle.octets.specs.Refusals.{refusal_text}
use Rattle.keys.specs.Json.{json_value}
use Rattle.keys.specs.KeySets.{items_count}
use Rattle.keys.specs.Limits.{limits}
use Rattle.objects.specs.Jwe.{EncryptedObject, Recipient, jwe_of}
use Rattle.objects.specs.KeyManagement.{KeyManagement, Unknown, Direct, KeyWrap, Password, GcmKeyWrap}
use Rattle.objects.specs.Texts.{is_dot}
use Rattle.tools.specs.declared.text_kind.TextKind.{TextKind}
use Rattle.tools.specs.declared.text_kind.TextKind.TheVariants as kind
use Rattle.tools.specs.ShownValues.{object_names, secret_names, shown_text}

-- ---- headers (docs/SPECIFICATION.md "Tools")

-- the value of the base64url text of a protected header
unfoldable pub header_value : List ℕ → Result Data Refusal
header_value text = do
  octets ← decoded text
  json_value octets

-- A header that is no JSON is not shown, since it may hold a damaged key.
abbrev pub shown_header : Result Data Refusal → List ℕ
shown_header (Ok value) = shown_text secret_names value
shown_header (Err refusal) = codes "jose: " ++ refusal_text refusal

-- an empty one has no members, and no line
abbrev pub header_line : List ℕ → List (List ℕ)
header_line text = if length text == 0 then [] else (codes "protected: " ++ shown_header (header_value text)) ∷ []

abbrev pub header_line_if : Option (List ℕ) → List (List ℕ)
header_line_if None = []
header_line_if (Some text) = header_line text

-- the header in the member `protected`, if it is a string
abbrev pub own_header_line : Data → List (List ℕ)
own_header_line value = header_line_if (option_and_then as_str (get (codes "protected") value))

abbrev pub each_header_line : Items → List (List ℕ)
each_header_line no_items = []
each_header_line (item value values) = own_header_line value ++ each_header_line values

abbrev pub items_or_none : Option Items → Items
items_or_none None = no_items
items_or_none (Some items) = items

-- the items of the list of this name, if there is one
abbrev pub items_at : List ℕ → Data → Option Items
items_at name value = option_and_then as_array (get name value)

-- the header of the object, and then those of its signatures
abbrev pub header_lines : Data → List (List ℕ)
header_lines value = own_header_line value ++ each_header_line (items_or_none (items_at (codes "signatures") value))

-- ---- counts (docs/SPECIFICATION.md "Tools")

abbrev pub count_or_one : Option Items → ℕ
count_or_one None = 1
count_or_one (Some items) = items_count items

-- how many items the list of this name has
abbrev pub count_line : List ℕ → ℕ → List ℕ
count_line name count = name ++ codes ": " ++ decimal count

-- ---- the lines of an object (docs/SPECIFICATION.md "Tools")

abbrev pub object_line : Data → List ℕ
object_line value = codes "object: " ++ shown_text object_names value

-- the lines of an object with its list of this name
abbrev pub object_lines : List ℕ → Data → List (List ℕ)
object_lines list value = object_line value ∷ header_lines value ++ count_line list (count_or_one (items_at list value)) ∷ []

-- what is before the first dot
abbrev pub before_dot : Option ℕ → List ℕ → List ℕ
before_dot None text = []
before_dot (Some dot) text = take dot text

-- the lines of an object in compact form, which has one signature or one recipient
abbrev pub part_lines : List ℕ → List ℕ → List (List ℕ)
part_lines list part = header_line (before_dot (position is_dot part) part) ++ count_line list 1 ∷ []

-- ---- iterations (RFC 7518 section 4.8.1.2, docs/SPECIFICATION.md "Tools")

-- the count of a password; other algorithms have none
abbrev pub iterations_of : KeyManagement → ℕ
iterations_of Unknown = 0
iterations_of Direct = 0
iterations_of KeyWrap = 0
iterations_of (Password p2s p2c) = p2c
iterations_of (GcmKeyWrap iv tag) = 0

-- what one password costs: the sum over the recipients
abbrev pub all_iterations : List Recipient → ℕ
all_iterations [] = 0
all_iterations (recipient ∷ recipients) = iterations_of recipient.management + all_iterations recipients

abbrev pub iterations_line : ℕ → List (List ℕ)
iterations_line n = if n == 0 then [] else (codes "iterations: " ++ decimal n) ∷ []

abbrev pub iterations_line_if : Result EncryptedObject Refusal → List (List ℕ)
iterations_line_if (Err refusal) = []
iterations_line_if (Ok o) = iterations_line (all_iterations o.recipients)

-- the last line of an encrypted object with passwords that is accepted
abbrev pub cost_lines : TextKind → List ℕ → List (List ℕ)
cost_lines kind.Encrypted text = iterations_line_if (jwe_of limits None text)
cost_lines kind.EncryptedDetached text = iterations_line_if (jwe_of limits (Some []) text)
cost_lines other text = []
