-- A value whose numbers are whole has no float.
use Rattle.std.proofs.Common.{◌≡◌, true, false, refl}
use Rattle.serde_json.specs.Data.{Num, unsigned, negative, float, Data, null, boolean, number, string, array, object, Items, no_items, item, Members, no_members, member}
use Rattle.serde_json.specs.Find.{is_float}
use Rattle.serde_json.specs.Written.{has_float, items_have_float, members_have_float}
use Rattle.keys.specs.Json.{is_whole, numbers_are_whole, item_numbers_are_whole, member_numbers_are_whole}
use Rattle.std.proofs.lemmas.Bool.{and_parts, or_from}

whole_is_no_float : (n : Num) → is_whole n ≡ true → is_float n ≡ false
whole_is_no_float (unsigned n) h = refl
whole_is_no_float (negative z) h = refl
whole_is_no_float (float x) h = cc h

mutual
  pub no_float : (d : Data) → numbers_are_whole d ≡ true → has_float d ≡ false
  no_float null h = refl
  no_float (boolean b) h = refl
  no_float (number n) h = whole_is_no_float n h
  no_float (string s) h = refl
  no_float (array ds) h = no_float_in_items ds h
  no_float (object ms) h = no_float_in_members ms h

  no_float_in_items : (ds : Items) → item_numbers_are_whole ds ≡ true → items_have_float ds ≡ false
  no_float_in_items no_items h = refl
  no_float_in_items (item d ds) h =
      let parts = and_parts (numbers_are_whole d) (item_numbers_are_whole ds) h in
      or_from (has_float d) (items_have_float ds) (no_float d parts.0) (no_float_in_items ds parts.1)

  pub no_float_in_members : (ms : Members) → member_numbers_are_whole ms ≡ true → members_have_float ms ≡ false
  no_float_in_members no_members h = refl
  no_float_in_members (member k d ms) h =
      let parts = and_parts (numbers_are_whole d) (member_numbers_are_whole ms) h in
      or_from (has_float d) (members_have_float ms) (no_float d parts.0) (no_float_in_members ms parts.1)
