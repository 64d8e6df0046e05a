-- What jose-look never shows, and where it says that jose refuses an object.
use Rattle.std.specs.Prelude.{◌≡◌, ℕ, true, List, Option, Some, if◌then◌else◌, Ok, Err}
use Rattle.std.specs.List.{Contains, list_all}
use Rattle.serde_json.specs.Data.{Data, null, boolean, number, string, array, object, Items, no_items, item, Members, no_members, member}
use Rattle.octets.specs.declared.refusal.Refusal.{Refusal}
use Rattle.keys.specs.Json.{json_value}
use Rattle.keys.specs.Texts.{is_among}
use Rattle.objects.specs.Texts.{is_json_form}
use Rattle.tools.specs.LookCalls.{file_text}
use Rattle.tools.specs.LookedObjects.{object_line, shown_header}
use Rattle.tools.specs.Looks.{look_lines}
use Rattle.tools.specs.Places.{Place, first_so}
use Rattle.tools.specs.Printing.{is_shown}
use Rattle.tools.specs.ShownValues.{secret_names, shown, shown_text}

-- ---- what a terminal shows (docs/SPECIFICATION.md "Tools")

-- Whatever octets the name and the text have, printable ASCII and line feeds alone are written.
abbrev pub LooksArePrinted : Type 0
LooksArePrinted = (name : List ℕ) (text : Option (List ℕ)) → list_all is_shown (file_text name text) ≡ true

-- ---- secrets (docs/SPECIFICATION.md "Tools")

-- the value, in which each secret member of a key, at any depth, has the value that the function gives
abbrev mutual
  pub with_secrets : (Data → Data) → Data → Data
  with_secrets f null = null
  with_secrets f (boolean b) = boolean b
  with_secrets f (number n) = number n
  with_secrets f (string s) = string s
  with_secrets f (array ds) = array (items_with_secrets f ds)
  with_secrets f (object ms) = object (members_with_secrets f ms)

  pub items_with_secrets : (Data → Data) → Items → Items
  items_with_secrets f no_items = no_items
  items_with_secrets f (item d ds) = item (with_secrets f d) (items_with_secrets f ds)

  pub members_with_secrets : (Data → Data) → Members → Members
  members_with_secrets f no_members = no_members
  members_with_secrets f (member name d ms) = member name (if is_among secret_names name then f d else with_secrets f d) (members_with_secrets f ms)

-- all secret names are among the names
abbrev pub HideSecrets : List (List ℕ) → Type 0
HideSecrets names = (name : List ℕ) → is_among secret_names name ≡ true → is_among names name ≡ true

-- Values that differ only in secret members are shown alike.
abbrev pub SecretsAreHidden : Type 0
SecretsAreHidden = (names : List (List ℕ)) (f : Data → Data) (d : Data) → HideSecrets names → shown names (with_secrets f d) ≡ shown names d

-- So the line of an object, the members in the line of a key and a protected header are the same for two texts whose values differ only so.
abbrev pub TextsHideSecrets : Type 0
TextsHideSecrets = (f : Data → Data) (text other : List ℕ) (value differing : Data) → json_value text ≡ Ok value → json_value other ≡ Ok differing
    → differing ≡ with_secrets f value
    → (object_line differing ≡ object_line value) × (shown_text secret_names differing ≡ shown_text secret_names value)
    × (shown_header (json_value other) ≡ shown_header (json_value text))

-- Of a text in braces that is not read as JSON the refusal alone is shown, since it may hold a damaged key.
abbrev pub DamagedTextsAreHidden : Type 0
DamagedTextsAreHidden = (name text other : List ℕ) (refusal : Refusal) → is_json_form text ≡ true → is_json_form other ≡ true
    → json_value text ≡ Err refusal → json_value other ≡ Err refusal → look_lines name text ≡ look_lines name other

-- ---- places (docs/SPECIFICATION.md "Tools")

-- The place that is shown is one of the places, and it alone is refused as the first line says.
abbrev pub ShownPlacesAreRefused : Type 0
ShownPlacesAreRefused = (so : Refusal) (places : List Place) (text : List ℕ) → first_so so places ≡ Some text → Contains places (text, Some so)
