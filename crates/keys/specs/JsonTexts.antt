-- The values of JSON texts, and their compact texts.
use Rattle.std.specs.Prelude.{◌≡◌, ℕ, ◌^◌, ◌<◌, ◌≤◌, max, List, [], ◌∷◌, ◌++◌, true, false, pos, negsuc, Some, Ok, Err, ⊤}
use Rattle.std.specs.Cmp.Lexicographic.{slice_cmp}
use Rattle.std.specs.List.{AllByRecursion}
use Rattle.std.specs.Ordering.{nat_cmp}
use Rattle.std.specs.Str.{IsUtf8}
use Rattle.std.specs.declared.cmp.Ordering.TheVariants.{Less}
use Rattle.serde_json.specs.Data.{Num, unsigned, negative, float, Data, null, boolean, number, string, array, object, Items, no_items, item, Members, no_members, member, put, depth, items_depth, members_depth}
use Rattle.serde_json.specs.Find.{get, as_array, as_object}
use Rattle.serde_json.specs.Written.{has_float, compact_text}
use Rattle.octets.specs.declared.refusal.Refusal.TheVariants.{Json}
use Rattle.octets.specs.Base64url.{is_url_character}
use Rattle.keys.specs.Json.{json_value}
use Rattle.keys.specs.Generating.{without}

-- ---- the values (docs/SPECIFICATION.md "Octets and texts")

-- a whole number from -2^63 to 2^64 - 1, which is negative exactly if it is below 0; `negsuc n` is -n - 1 ("Left out by name")
abbrev pub IsJsonNumber : Num → Type 0
IsJsonNumber (unsigned n) = n < 2 ^ 64
IsJsonNumber (negative (pos n)) = ⊥
IsJsonNumber (negative (negsuc n)) = n < 2 ^ 63
IsJsonNumber (float x) = ⊥

-- the name is before that of each member, in byte order
abbrev pub IsBefore : List ℕ → Members → Type 0
IsBefore name no_members = ⊤
IsBefore name (member other value rest) = (slice_cmp nat_cmp name other ≡ Less) × IsBefore name rest

-- each text is UTF-8, each number is a whole one of 64 bits, and each object has its names in order, none of them twice
abbrev mutual
  pub IsJson : Data → Type 0
  IsJson null = ⊤
  IsJson (boolean b) = ⊤
  IsJson (number n) = IsJsonNumber n
  IsJson (string s) = IsUtf8 s
  IsJson (array ds) = AreJsonItems ds
  IsJson (object ms) = AreJsonMembers ms

  pub AreJsonItems : Items → Type 0
  AreJsonItems no_items = ⊤
  AreJsonItems (item d ds) = IsJson d × AreJsonItems ds

  pub AreJsonMembers : Members → Type 0
  AreJsonMembers no_members = ⊤
  AreJsonMembers (member name value rest) = IsUtf8 name × IsBefore name rest × IsJson value × AreJsonMembers rest

-- ---- their texts (docs/SPECIFICATION.md "Octets and texts")

-- the compact text of a value that is at most 127 deep reads as the value
abbrev pub CompactTextReadsBack : Type 0
CompactTextReadsBack = (d : Data) → IsJson d → depth d ≤ 127 → json_value (compact_text d) ≡ Ok d

-- the compact text of a value that nests deeper is refused
abbrev pub DeepTextsAreRefused : Type 0
DeepTextsAreRefused = (d : Data) → IsJson d → 127 < depth d → json_value (compact_text d) ≡ Err Json

-- a text reads as a value that is as above and at most 127 deep
abbrev pub ReadsJson : Type 0
ReadsJson = (text : List ℕ) (d : Data) → json_value text ≡ Ok d → IsJson d × (depth d ≤ 127)

-- A JSON value has no float. A value found in it, its members and its items are JSON values that nest less deep. Members stay JSON values
-- when one is put in or left out.
pub record KeepJson : Type 0 where
  pub no_float : (d : Data) → IsJson d → has_float d ≡ false
  pub found : (name : List ℕ) (d e : Data) → IsJson d → get name d ≡ Some e → IsJson e × (depth e < depth d)
  pub members_of : (d : Data) (members : Members) → IsJson d → as_object d ≡ Some members → AreJsonMembers members × (members_depth members < depth d)
  pub items_of : (d : Data) (items : Items) → IsJson d → as_array d ≡ Some items → AreJsonItems items × (items_depth items < depth d)
  pub put_in : (name : List ℕ) (d : Data) (members : Members) → IsUtf8 name → IsJson d → AreJsonMembers members
      → AreJsonMembers (put name d members) × (members_depth (put name d members) ≤ max (depth d) (members_depth members))
  pub left : (name : List ℕ) (members : Members) → AreJsonMembers members → AreJsonMembers (without name members)
      × (members_depth (without name members) ≤ members_depth members)

-- a text of letters, digits, `-` and `_` is UTF-8, and its compact text is the same between quotes (RFC 8259 section 7)
abbrev pub UrlTextsAreJson : Type 0
UrlTextsAreJson = (text : List ℕ) → AllByRecursion (λ c. is_url_character c ≡ true) text → IsUtf8 text × (compact_text (string text) ≡ 34 ∷ (text ++ 34 ∷ []))
