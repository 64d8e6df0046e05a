-- The members of a key (RFC 7517 section 4) that are texts and lists of texts. A key with a member of another type is bad.
use Rattle.std.specs.Prelude.{ℕ, List, [], ◌∷◌, Option, Some, option_map, option_and_then, Result}
use Rattle.std.specs.Option.{ok_or}
use Rattle.serde_json.specs.Data.{Data, Items, no_items, item}
use Rattle.serde_json.specs.Find.{get, as_str, as_array}
use Rattle.octets.specs.declared.refusal.Refusal.{Refusal}
use Rattle.octets.specs.declared.refusal.Refusal.TheVariants.{Key}
use Rattle.octets.specs.Outcomes.{if_there}

-- ---- members (docs/SPECIFICATION.md "Keys" 2)

-- the text of a member that must be there and be a string
unfoldable pub string_member : List ℕ → Data → Result (List ℕ) Refusal
string_member name value = ok_or (option_and_then as_str (get name value)) Key

-- the text of a member that is a string, or absent
unfoldable pub optional_string_member : List ℕ → Data → Result (Option (List ℕ)) Refusal
optional_string_member name value = if_there (λ found. ok_or (as_str found) Key) (get name value)

-- the texts of items that are all strings
abbrev pub strings_of : Items → Option (List (List ℕ))
strings_of no_items = Some []
strings_of (item d ds) = option_and_then (λ text. option_map (λ texts. text ∷ texts) (strings_of ds)) (as_str d)

-- the texts of a member that is a list of strings, or absent
unfoldable pub optional_strings_member : List ℕ → Data → Result (Option (List (List ℕ))) Refusal
optional_strings_member name value = if_there (λ found. ok_or (option_and_then strings_of (as_array found)) Key) (get name value)
