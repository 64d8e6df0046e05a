-- The sets that jose-set makes of whole texts (docs/SPECIFICATION.md "Tools").
use Rattle.std.specs.Prelude.{ℕ, ◌+◌, ◌==◌, ◌&&◌, ◌||◌, not, nat_le, Bool, true, List, [], ◌∷◌, ◌++◌, map, codes, is_some, Option, Some, None, if◌then◌else◌, Result, Ok, Err}
use Rattle.std.specs.List.{list_any}
use Rattle.std.specs.Str.{bytes_eq}
use Rattle.serde_json.specs.Data.{Data, object, array, Items, no_items, item, no_members, member, depth}
use Rattle.serde_json.specs.Find.{get}
use Rattle.serde_json.specs.Written.{compact_text}
use Rattle.octets.specs.declared.refusal.Refusal.{Refusal}
use Rattle.octets.specs.declared.refusal.Refusal.TheVariants as refusal
use Rattle.prf.specs.declared.digests.HashAlg.TheVariants.{S256}
use Rattle.keys.specs.Json.{json_value, has_only}
use Rattle.keys.specs.Keys.{OctetKey}
use Rattle.keys.specs.KeySets.{items_count, key_objects, key_set}
use Rattle.keys.specs.Limits.{limits}
use Rattle.keys.specs.Texts.{is_among}
use Rattle.keys.specs.Thumbprints.{thumbprint_of}
use Rattle.tools.specs.declared.tool_cause.Place.{Place}
use Rattle.tools.specs.declared.tool_cause.Place.TheVariants.{Target}
use Rattle.tools.specs.declared.tool_cause.ToolCause.{ToolCause}
use Rattle.tools.specs.declared.tool_cause.ToolCause.TheVariants.{Memory, At}
use Rattle.tools.specs.declared.tool_cause.Why.TheVariants.{Refused, OtherMember, KeyTwice, NoSet, NoKey, NoneStays}
use Rattle.tools.specs.Steps.{◌>>=◌, needs}

-- ---- what a text holds (docs/SPECIFICATION.md "Tools")

abbrev pub refused_by : Place → Refusal → ToolCause
refused_by place refusal.Memory = Memory
refused_by place refusal = At place (Refused refusal)

-- what jose refuses, with the place
abbrev pub judged : {A : Type 0} → Place → Result A Refusal → Result A ToolCause
judged place (Ok x) = Ok x
judged place (Err refusal) = Err (refused_by place refusal)

abbrev pub is_set : Data → Bool
is_set value = is_some (get (codes "keys") value)

-- the greatest depth of an object in a set that can be read
abbrev pub most_depth : ℕ
most_depth = 125

-- no object is deeper than it may be in a set
abbrev pub are_shallow : Items → Bool
are_shallow no_items = true
are_shallow (item value values) = nat_le (depth value) most_depth && are_shallow values

pub record HeldKeys : Type 0 where
  -- it is a set, and not a key
  pub is_set : Bool
  -- the key objects, and their keys in the same order
  pub objects : Items
  pub keys : List OctetKey

-- The keys of a text, all of which must be good. A set has no other member than `keys`.
unfoldable pub held_keys : Place → List ℕ → Result HeldKeys ToolCause
held_keys place text = do
  keys ← judged place (key_set limits text true)
  value ← judged place (json_value text)
  objects ← judged place (key_objects value)
  alone ← needs (not (is_set value) || has_only (codes "keys" ∷ []) value) (At place OtherMember)
  shallow ← needs (are_shallow objects) (At place (Refused refusal.Limit))
  Ok (record { is_set = is_set value; objects = objects; keys = keys })

-- ---- keys that are joined (docs/SPECIFICATION.md "Tools")

abbrev pub has_octets : List OctetKey → List ℕ → Bool
has_octets keys octets = list_any (λ key. bytes_eq key.octets octets) keys

-- the first key of the second list whose octets an earlier key has, in either list
abbrev pub first_twice : List OctetKey → List OctetKey → Option OctetKey
first_twice earlier [] = None
first_twice earlier (key ∷ keys) = if has_octets earlier key.octets then Some key else first_twice (earlier ++ key ∷ []) keys

abbrev pub none_twice : Place → Option OctetKey → Result (Unit {0}) ToolCause
none_twice place None = Ok tt
none_twice place (Some key) = Err (At place (KeyTwice (thumbprint_of key S256)))

pub record JoinedKeys : Type 0 where
  pub objects : Items
  pub keys : List OctetKey

abbrev pub no_keys : JoinedKeys
no_keys = record { objects = no_items; keys = [] }

abbrev pub joined_items : Items → Items → Items
joined_items no_items others = others
joined_items (item value values) others = item value (joined_items values others)

-- with the keys of one more text, none of which is there already
unfoldable pub with_keys : Place → JoinedKeys → HeldKeys → Result JoinedKeys ToolCause
with_keys place joined held = do
  apart ← none_twice place (first_twice joined.keys held.keys)
  few ← needs (nat_le (items_count joined.objects + items_count held.objects) limits.keys) (At place (Refused refusal.Limit))
  Ok (record { objects = joined_items joined.objects held.objects; keys = joined.keys ++ held.keys })

abbrev pub with_text : Place → JoinedKeys → List ℕ → Result JoinedKeys ToolCause
with_text place joined text = held_keys place text >>= with_keys place joined

-- the keys of a text that must be a set
abbrev pub set_keys : List ℕ → Result JoinedKeys ToolCause
set_keys text = do
  held ← held_keys Target text
  set ← needs held.is_set (At Target NoSet)
  with_keys Target no_keys held

-- ---- the set's text (docs/SPECIFICATION.md "Tools")

abbrev pub set_value : Items → Data
set_value objects = object (member (codes "keys") (array objects) no_members)

abbrev pub set_text : Items → List ℕ
set_text objects = compact_text (set_value objects)

-- ---- a set without some keys (docs/SPECIFICATION.md "Tools")

abbrev pub thumbprints : List OctetKey → List (List ℕ)
thumbprints keys = map (λ key. thumbprint_of key S256) keys

-- the objects whose thumbprint, in the second list, is not named
abbrev pub left : List (List ℕ) → List (List ℕ) → Items → Items
left names (print ∷ prints) (item value values) = if is_among names print then left names prints values else item value (left names prints values)
left names prints values = no_items

-- the place of the first name that is not among the thumbprints, counted from the given number
abbrev pub first_unknown : ℕ → List (List ℕ) → List (List ℕ) → Option ℕ
first_unknown at prints [] = None
first_unknown at prints (name ∷ names) = if is_among prints name then first_unknown (at + 1) prints names else Some at

abbrev pub all_there : Option ℕ → Result (Unit {0}) ToolCause
all_there None = Ok tt
all_there (Some at) = Err (At Target (NoKey at))

-- the text of the set without the keys of these thumbprints, each of which must be there; a key must stay
unfoldable pub text_without : List (List ℕ) → List ℕ → Result (List ℕ) ToolCause
text_without names text = do
  held ← held_keys Target text
  there ← all_there (first_unknown 0 (thumbprints held.keys) names)
  some ← needs (not (items_count (left names (thumbprints held.keys) held.objects) == 0)) (At Target NoneStays)
  Ok (set_text (left names (thumbprints held.keys) held.objects))
