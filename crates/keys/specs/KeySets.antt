-- Keys and sets of keys (RFC 7517 section 5).
use Rattle.std.specs.Prelude.{◌≡◌, ℕ, suc, ◌&&◌, ◌==◌, not, Bool, true, false, List, [], ◌∷◌, length, codes, nat_le, if◌then◌else◌, Option, Some, None, Result, Ok, Err}
use Rattle.std.specs.Option.{ok_or}
use Rattle.serde_json.specs.Data.{Data, Items, no_items, item}
use Rattle.serde_json.specs.Find.{get, as_array}
use Rattle.octets.specs.declared.refusal.Refusal.{Refusal}
use Rattle.octets.specs.declared.refusal.Refusal.TheVariants.{Key, Limit}
use Rattle.octets.specs.Outcomes.{◌>>=◌, needs}
use Rattle.keys.specs.Json.{json_value, is_object}
use Rattle.keys.specs.Limits.{Limits}
use Rattle.keys.specs.Keys.{OctetKey, AreOctetKeys, octet_key}

-- ---- the objects of a key text (RFC 7517 section 5.1, docs/SPECIFICATION.md "Keys" 1)

abbrev pub are_objects : Items → Bool
are_objects no_items = true
are_objects (item value values) = is_object value && are_objects values

abbrev pub items_count : Items → ℕ
items_count no_items = 0
items_count (item value values) = suc (items_count values)

-- the items of the member `keys`, or the value itself if it has no such member
abbrev pub objects_at : Data → Option Data → Result Items Refusal
objects_at value None = Ok (item value no_items)
objects_at value (Some list) = do
  values ← ok_or (as_array list) Key
  objects ← needs (are_objects values) Key
  Ok values

unfoldable pub key_objects : Data → Result Items Refusal
key_objects value = if is_object value then objects_at value (get (codes "keys") value) else Err Key

-- ---- the keys (docs/SPECIFICATION.md "Keys" 3 and 6)

-- with `strict` a bad key is refused, and otherwise it is passed over
abbrev pub unless_bad : Bool → Result OctetKey Refusal → Result (List OctetKey) Refusal → Result (List OctetKey) Refusal
unless_bad strict (Ok key) keys = keys >>= λ others. Ok (key ∷ others)
unless_bad true (Err refusal) keys = Err refusal
unless_bad false (Err refusal) keys = keys

-- the good octet keys of the objects, in order
abbrev pub octet_keys : Limits → Bool → Items → Result (List OctetKey) Refusal
octet_keys limits strict no_items = Ok []
octet_keys limits strict (item value values) = unless_bad strict (octet_key limits value) (octet_keys limits strict values)

-- the good octet keys of a value, at least one; with `strict` all its objects must be good
unfoldable pub value_keys : Limits → Data → Bool → Result (List OctetKey) Refusal
value_keys limits value strict = do
  objects ← key_objects value
  few ← needs (nat_le (items_count objects) limits.keys) Limit
  keys ← octet_keys limits strict objects
  some ← needs (not (length keys == 0)) Key
  Ok keys

-- the keys of a text
unfoldable pub key_set : Limits → List ℕ → Bool → Result (List OctetKey) Refusal
key_set limits text strict = do
  value ← json_value text
  value_keys limits value strict

-- the keys of a text have octets
abbrev pub KeysHaveOctets : Type 0
KeysHaveOctets = (limits : Limits) (text : List ℕ) (strict : Bool) (keys : List OctetKey) → key_set limits text strict ≡ Ok keys → AreOctetKeys keys
