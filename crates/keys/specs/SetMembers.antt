-- The members of a key text, good and bad (RFC 7517 section 5.1).
use Rattle.std.specs.Prelude.{◌≡◌, ℕ, false, List, [], ◌∷◌, nat_le, is_some, Option, Result, Ok}
use Rattle.std.specs.List.{filter_map, list_any}
use Rattle.std.specs.Result.{result_ok}
use Rattle.serde_json.specs.Data.{Items, no_items, item}
use Rattle.octets.specs.declared.refusal.Refusal.{Refusal}
use Rattle.octets.specs.declared.refusal.Refusal.TheVariants.{Key, Limit}
use Rattle.octets.specs.Outcomes.{◌>>=◌, needs}
use Rattle.keys.specs.Json.{json_value}
use Rattle.keys.specs.Keys.{OctetKey, octet_key}
use Rattle.keys.specs.KeySets.{items_count, key_objects, key_set}
use Rattle.keys.specs.Limits.{Limits}

-- ---- members (docs/SPECIFICATION.md "Calls for C" 8)

-- the octet key of each object in order, or none if it is bad
abbrev pub members_of : Limits → Items → List (Option OctetKey)
members_of limits no_items = []
members_of limits (item value values) = result_ok (octet_key limits value) ∷ members_of limits values

-- the members of a text: those of its set, or the key that is alone; at least one of them is good
unfoldable pub key_members : Limits → List ℕ → Result (List (Option OctetKey)) Refusal
key_members limits text = do
  value ← json_value text
  objects ← key_objects value
  few ← needs (nat_le (items_count objects) limits.keys) Limit
  some ← needs (list_any is_some (members_of limits objects)) Key
  Ok (members_of limits objects)

-- the keys of the good members, in order
abbrev pub good_members : List (Option OctetKey) → List OctetKey
good_members members = filter_map (λ member. member) members

-- The keys of a text are its good members in order, and both are refused alike.
abbrev pub KeysAreGoodMembers : Type 0
KeysAreGoodMembers = (limits : Limits) (text : List ℕ)
    → key_set limits text false ≡ (key_members limits text >>= λ members. Ok (good_members members))
