-- JSON texts (RFC 8259) as `serde_json` reads them.
use Rattle.std.specs.Prelude.{◌≡◌, ℕ, ◌&&◌, ◌||◌, Bool, true, false, List, is_some, if◌then◌else◌, Some, Result, Ok, Err}
use Rattle.std.specs.Option.{ok_or}
use Rattle.std.specs.Str.{is_utf8}
use Rattle.serde_json.specs.Data.{Num, Data, null, boolean, number, string, array, object, Items, no_items, item, Members, no_members, member, put}
use Rattle.serde_json.specs.Find.{get, as_object, as_i64, as_u64}
use Rattle.serde_json.specs.Read.{read}
use Rattle.serde_json.specs.Written.{has_float, members_have_float}
use Rattle.octets.specs.declared.refusal.Refusal.{Refusal}
use Rattle.octets.specs.declared.refusal.Refusal.TheVariants.{Json, Number}
use Rattle.octets.specs.Outcomes.{◌>>=◌, needs}
use Rattle.keys.specs.Texts.{is_among}

-- ---- reading (docs/SPECIFICATION.md "Octets and texts")

-- the value of a JSON text in UTF-8 (RFC 8259 sections 2 and 8.1)
unfoldable pub json_reading : List ℕ → Result Data Refusal
json_reading octets = if is_utf8 octets then ok_or (read octets) Json else Err Json

-- a whole number of 64 bits, with or without a sign
abbrev pub is_whole : Num → Bool
is_whole n = is_some (as_i64 n) || is_some (as_u64 n)

-- each number is whole, at any depth
abbrev mutual
  pub numbers_are_whole : Data → Bool
  numbers_are_whole null = true
  numbers_are_whole (boolean b) = true
  numbers_are_whole (number n) = is_whole n
  numbers_are_whole (string s) = true
  numbers_are_whole (array ds) = item_numbers_are_whole ds
  numbers_are_whole (object ms) = member_numbers_are_whole ms

  pub item_numbers_are_whole : Items → Bool
  item_numbers_are_whole no_items = true
  item_numbers_are_whole (item d ds) = numbers_are_whole d && item_numbers_are_whole ds

  pub member_numbers_are_whole : Members → Bool
  member_numbers_are_whole no_members = true
  member_numbers_are_whole (member k d ms) = numbers_are_whole d && member_numbers_are_whole ms

-- The value of a text, if all numbers in it are whole. A repeated name has its last value, and its earlier ones need not be whole.
unfoldable pub json_value : List ℕ → Result Data Refusal
json_value octets = do
  value ← json_reading octets
  whole ← needs (numbers_are_whole value) Number
  Ok value

-- ---- objects (RFC 8259 section 4)

abbrev pub is_object : Data → Bool
is_object value = is_some (as_object value)

-- each member has one of these names
abbrev pub members_have_only : List (List ℕ) → Members → Bool
members_have_only names no_members = true
members_have_only names (member name value rest) = is_among names name && members_have_only names rest

-- the members of an object have only these names; another value has no members
abbrev pub has_only : List (List ℕ) → Data → Bool
has_only names null = true
has_only names (boolean b) = true
has_only names (number n) = true
has_only names (string s) = true
has_only names (array items) = true
has_only names (object members) = members_have_only names members

-- ---- values without floats (docs/SPECIFICATION.md "Octets and texts")

-- Members whose numbers are whole have no float. A value without floats has none in its members, and these have none after a value without
-- floats is put in.
pub record KeepFloatsOut : Type 0 where
  pub whole : (members : Members) → member_numbers_are_whole members ≡ true → members_have_float members ≡ false
  pub found : (name : List ℕ) (d e : Data) → has_float d ≡ false → get name d ≡ Some e → has_float e ≡ false
  pub members_of : (d : Data) (members : Members) → as_object d ≡ Some members → has_float d ≡ false → members_have_float members ≡ false
  pub put_in : (name : List ℕ) (d : Data) (members : Members) → has_float d ≡ false → members_have_float members ≡ false
      → members_have_float (put name d members) ≡ false
