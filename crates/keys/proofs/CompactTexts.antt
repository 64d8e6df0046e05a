-- The compact text of a JSON value is UTF-8.
use Rattle.std.proofs.Common.{ℕ, suc, ◌^◌, ◌<◌, pos, negsuc, List, [], ◌∷◌, ◌++◌, Bool, true, false, decimal, IsUtf8, refl, arith}
use Rattle.std.proofs.lemmas.Fmt.{IsAscii-decimal}
use Rattle.std.proofs.lemmas.Str.{IsUtf8-append, IsUtf8-from_ascii, IsUtf8-nil}
use Rattle.json.proofs.Printed.Utf8.{IsUtf8-are_ascii, IsUtf8-boolean, IsUtf8-quoted}
use Rattle.json.specs.Print.{quoted}
use Rattle.serde_json.specs.Data.{Num, unsigned, negative, float, Data, null, boolean, number, string, array, object, Items, no_items, item, Members, no_members, member}
use Rattle.serde_json.specs.Written.{number_text, comma_if, compact_text, items_text, members_text}
use Rattle.keys.specs.JsonTexts.{IsJsonNumber, IsJson, AreJsonItems, AreJsonMembers}

decimal_is_utf8 : (n : ℕ) → n < 2 ^ 64 → IsUtf8 (decimal n)
decimal_is_utf8 n h = IsUtf8-from_ascii (decimal n) (IsAscii-decimal n h)

number_is_utf8 : (n : Num) → IsJsonNumber n → IsUtf8 (number_text n)
number_is_utf8 (unsigned n) h = decimal_is_utf8 n h
number_is_utf8 (negative (pos n)) h = absurd h
number_is_utf8 (negative (negsuc n)) h = IsUtf8-append (45 ∷ []) (decimal (suc n)) (IsUtf8-are_ascii (45 ∷ []) refl)
    (decimal_is_utf8 (suc n) (omega (arith, h)))
number_is_utf8 (float x) h = absurd h

comma_is_utf8 : (later : Bool) → IsUtf8 (comma_if later)
comma_is_utf8 true = IsUtf8-are_ascii (44 ∷ []) refl
comma_is_utf8 false = IsUtf8-nil

mutual
  pub text_is_utf8 : (d : Data) → IsJson d → IsUtf8 (compact_text d)
  text_is_utf8 null h = IsUtf8-are_ascii (compact_text null) refl
  text_is_utf8 (boolean b) h = IsUtf8-boolean b
  text_is_utf8 (number n) h = number_is_utf8 n h
  text_is_utf8 (string s) h = IsUtf8-quoted s h
  text_is_utf8 (array ds) h = IsUtf8-append (91 ∷ []) (items_text false ds) (IsUtf8-are_ascii (91 ∷ []) refl) (items_text_is_utf8 false ds h)
  text_is_utf8 (object ms) h = IsUtf8-append (123 ∷ []) (members_text false ms) (IsUtf8-are_ascii (123 ∷ []) refl) (members_text_is_utf8 false ms h)

  items_text_is_utf8 : (later : Bool) (ds : Items) → AreJsonItems ds → IsUtf8 (items_text later ds)
  items_text_is_utf8 later no_items h = IsUtf8-are_ascii (93 ∷ []) refl
  items_text_is_utf8 later (item d ds) h =
      IsUtf8-append (comma_if later) (compact_text d ++ items_text true ds) (comma_is_utf8 later)
      (IsUtf8-append (compact_text d) (items_text true ds) (text_is_utf8 d h.0) (items_text_is_utf8 true ds h.1))

  members_text_is_utf8 : (later : Bool) (ms : Members) → AreJsonMembers ms → IsUtf8 (members_text later ms)
  members_text_is_utf8 later no_members h = IsUtf8-are_ascii (125 ∷ []) refl
  members_text_is_utf8 later (member k d ms) h =
      let value : List ℕ = compact_text d ++ members_text true ms in
      let value_is_utf8 : IsUtf8 value = IsUtf8-append (compact_text d) (members_text true ms) (text_is_utf8 d h.2) (members_text_is_utf8 true ms h.3) in
      IsUtf8-append (comma_if later) (quoted k ++ 58 ∷ value) (comma_is_utf8 later)
      (IsUtf8-append (quoted k) (58 ∷ value) (IsUtf8-quoted k h.0) (IsUtf8-append (58 ∷ []) value (IsUtf8-are_ascii (58 ∷ []) refl) value_is_utf8))
