-- The compact text of a JSON value reads as this value.
use Rattle.std.proofs.Common.{◌≡◌, ◌≤◌, ℕ, pos, negsuc, List, [], true, is_some, Some, Ok, option_map, option_and_then, refl, sym, ap, ◌∙◌, arith, append-nil, Ordering, Less, Greater, nat_cmp}
use Rattle.std.proofs.lemmas.Bool.{and_from, or_right}
use Rattle.std.proofs.lemmas.Cmp.{nat_list_cmp_total}
use Rattle.std.specs.Cmp.Lexicographic.{slice_cmp}
use Rattle.std.specs.Ordering.{match_ordering, ordering_reverse}
use Rattle.std.specs.Prelude.{⊤}
use Rattle.json.specs.Json as json
use Rattle.json.specs.Lex.{tokens}
use Rattle.json.specs.Tree as tree
use Rattle.json.proofs.Printed.Decimals.{IsNumber-decimal, IsNumber-signed_decimal}
use Rattle.json.proofs.Printed.Tokens.{tokens-print}
use Rattle.json.proofs.Printed.Trees.{ArePrintable-json_tokens, value-json_tokens}
use Rattle.serde_json.specs.Data.{Num, unsigned, negative, float, Data, null, boolean, number, string, array, object, Items, no_items, item, Members, no_members, member, put, depth, items_depth, members_depth}
use Rattle.serde_json.specs.Find.{as_i64}
use Rattle.serde_json.specs.Read.{max_depth, read, of_json, of_items, of_members, number_of}
use Rattle.serde_json.specs.Written.{number_text, outline, items_outline, members_outline, compact_text}
use Rattle.serde_json.proofs.Numbers.{number_of-decimal, number_of-negative}
use Rattle.serde_json.proofs.Texts.{print-outline}
use Rattle.octets.specs.Outcomes.{◌>>=◌, needs}
use Rattle.octets.specs.declared.refusal.Refusal.TheVariants.{Number}
use Rattle.keys.specs.Json.{json_reading, json_value, is_whole, numbers_are_whole, item_numbers_are_whole, member_numbers_are_whole}
use Rattle.keys.specs.JsonTexts.{IsJsonNumber, IsBefore, IsJson, AreJsonItems, AreJsonMembers, CompactTextReadsBack}
use Rattle.keys.proofs.CompactTexts.{text_is_utf8}
use Rattle.keys.proofs.Readings.{reading_of_text}

-- ---- members that come in order are inserted at the end

abbrev joined : Members → Members → Members
joined no_members ms = ms
joined (member k d done) ms = member k d (joined done ms)

abbrev AreBefore : Members → Members → Type 0
AreBefore no_members ms = ⊤
AreBefore (member k d done) ms = IsBefore k ms × AreBefore done ms

put_at : (o : Ordering) (k l : List ℕ) (d e : Data) (ms : Members) → slice_cmp nat_cmp k l ≡ o
    → put k d (member l e ms) ≡ match_ordering o (member k d (member l e ms)) (member l d ms) (member l e (put k d ms))
put_at o k l d e ms is = ap (λ t. match_ordering t (member k d (member l e ms)) (member l d ms) (member l e (put k d ms))) is

later : (k l : List ℕ) → slice_cmp nat_cmp l k ≡ Less → slice_cmp nat_cmp k l ≡ Greater
later k l h = nat_list_cmp_total.antisymm k l ∙ ap ordering_reverse h

put_last : (done : Members) (k : List ℕ) (d : Data) (ms : Members) → AreBefore done (member k d ms) → put k d done ≡ joined done (member k d no_members)
put_last no_members k d ms h = refl
put_last (member l e done) k d ms h = put_at Greater k l d e done (later k l h.0.0) ∙ ap (member l e) (put_last done k d ms h.1)

joined_more : (done : Members) (k : List ℕ) (d : Data) (ms : Members) → joined (joined done (member k d no_members)) ms ≡ joined done (member k d ms)
joined_more no_members k d ms = refl
joined_more (member l e done) k d ms = ap (member l e) (joined_more done k d ms)

AreBefore_more : (done : Members) (k : List ℕ) (d : Data) (ms : Members) → AreBefore done (member k d ms) → IsBefore k ms
    → AreBefore (joined done (member k d no_members)) ms
AreBefore_more no_members k d ms h p = (p, tt)
AreBefore_more (member l e done) k d ms h p = (h.0.1, AreBefore_more done k d ms h.1 p)

joined_none : (done : Members) → joined done no_members ≡ done
joined_none no_members = refl
joined_none (member k d done) = ap (member k d) (joined_none done)

-- ---- the text has the value

number_reads : (n : Num) → IsJsonNumber n → number_of (number_text n) ≡ Some n
number_reads (unsigned n) h = number_of-decimal n h
number_reads (negative (pos n)) h = absurd h
number_reads (negative (negsuc n)) h = number_of-negative n h
number_reads (float x) h = absurd h

mutual
  of_outline : (d : Data) → IsJson d → of_json (outline d) ≡ Some d
  of_outline null h = refl
  of_outline (boolean b) h = refl
  of_outline (number n) h = ap (option_map number) (number_reads n h)
  of_outline (string s) h = refl
  of_outline (array ds) h = ap (option_map array) (of_items_outline ds h)
  of_outline (object ms) h = ap (option_map object) (of_members_outline no_members ms tt h)

  of_items_outline : (ds : Items) → AreJsonItems ds → of_items (items_outline ds) ≡ Some ds
  of_items_outline no_items h = refl
  of_items_outline (item d ds) h = ap (option_and_then (λ e. option_map (item e) (of_items (items_outline ds)))) (of_outline d h.0)
      ∙ ap (option_map (item d)) (of_items_outline ds h.1)

  of_members_outline : (done ms : Members) → AreBefore done ms → AreJsonMembers ms → of_members (members_outline ms) done ≡ Some (joined done ms)
  of_members_outline done no_members p h = ap Some (sym (joined_none done))
  of_members_outline done (member k d ms) p h =
      ap (option_and_then (λ e. of_members (members_outline ms) (put k e done))) (of_outline d h.2)
      ∙ ap (of_members (members_outline ms)) (put_last done k d ms p)
      ∙ of_members_outline (joined done (member k d no_members)) ms (AreBefore_more done k d ms p h.1) h.3
      ∙ ap Some (joined_more done k d ms)

number_is : (n : Num) → IsJsonNumber n → tree.HasNumbers (json.number (number_text n))
number_is (unsigned n) h = IsNumber-decimal n h
number_is (negative (pos n)) h = absurd h
number_is (negative (negsuc n)) h = IsNumber-signed_decimal (negsuc n) h
number_is (float x) h = absurd h

mutual
  pub HasNumbers_outline : (d : Data) → IsJson d → tree.HasNumbers (outline d)
  HasNumbers_outline null h = tt
  HasNumbers_outline (boolean b) h = tt
  HasNumbers_outline (number n) h = number_is n h
  HasNumbers_outline (string s) h = tt
  HasNumbers_outline (array ds) h = items_HasNumbers ds h
  HasNumbers_outline (object ms) h = members_HasNumbers ms h

  items_HasNumbers : (ds : Items) → AreJsonItems ds → tree.ItemsHaveNumbers (items_outline ds)
  items_HasNumbers no_items h = tt
  items_HasNumbers (item d ds) h = (HasNumbers_outline d h.0, items_HasNumbers ds h.1)

  members_HasNumbers : (ms : Members) → AreJsonMembers ms → tree.MembersHaveNumbers (members_outline ms)
  members_HasNumbers no_members h = tt
  members_HasNumbers (member k d ms) h = (HasNumbers_outline d h.2, members_HasNumbers ms h.3)

mutual
  pub depth_outline : (d : Data) → tree.depth (outline d) ≡ depth d
  depth_outline null = refl
  depth_outline (boolean b) = refl
  depth_outline (number n) = refl
  depth_outline (string s) = refl
  depth_outline (array ds) = omega (arith, items_depth_outline ds)
  depth_outline (object ms) = omega (arith, members_depth_outline ms)

  items_depth_outline : (ds : Items) → tree.items_depth (items_outline ds) ≡ items_depth ds
  items_depth_outline no_items = refl
  items_depth_outline (item d ds) = omega (arith, depth_outline d, items_depth_outline ds)

  members_depth_outline : (ms : Members) → tree.members_depth (members_outline ms) ≡ members_depth ms
  members_depth_outline no_members = refl
  members_depth_outline (member k d ms) = omega (arith, depth_outline d, members_depth_outline ms)

read_back : (d : Data) → IsJson d → depth d ≤ max_depth → read (compact_text d) ≡ Some d
read_back d is shallow =
    let j = outline d in
    let text : tokens (compact_text d) ≡ tree.json_tokens j = ap tokens (sym (print-outline d))
    ∙ tokens-print (tree.json_tokens j) (ArePrintable-json_tokens j (HasNumbers_outline d is)) in
    ap (λ o. option_and_then of_json (option_and_then (λ p. json.if_last p.0 p.1) o))
    (ap (json.value max_depth) (text ∙ sym (append-nil (tree.json_tokens j))) ∙ value-json_tokens j max_depth [] (omega (arith, depth_outline d)))
    ∙ of_outline d is

-- ---- the numbers are whole

number_is_whole : (n : Num) → IsJsonNumber n → is_whole n ≡ true
number_is_whole (unsigned n) h = or_right (is_some (as_i64 (unsigned n))) true refl
number_is_whole (negative z) h = refl
number_is_whole (float x) h = absurd h

mutual
  pub numbers_whole : (d : Data) → IsJson d → numbers_are_whole d ≡ true
  numbers_whole null h = refl
  numbers_whole (boolean b) h = refl
  numbers_whole (number n) h = number_is_whole n h
  numbers_whole (string s) h = refl
  numbers_whole (array ds) h = item_numbers_whole ds h
  numbers_whole (object ms) h = member_numbers_whole ms h

  item_numbers_whole : (ds : Items) → AreJsonItems ds → item_numbers_are_whole ds ≡ true
  item_numbers_whole no_items h = refl
  item_numbers_whole (item d ds) h = and_from (numbers_are_whole d) (item_numbers_are_whole ds) (numbers_whole d h.0) (item_numbers_whole ds h.1)

  member_numbers_whole : (ms : Members) → AreJsonMembers ms → member_numbers_are_whole ms ≡ true
  member_numbers_whole no_members h = refl
  member_numbers_whole (member k d ms) h = and_from (numbers_are_whole d) (member_numbers_are_whole ms) (numbers_whole d h.2) (member_numbers_whole ms h.3)

value_of_reading : (text : List ℕ) (d : Data) → json_reading text ≡ Ok d → numbers_are_whole d ≡ true → json_value text ≡ Ok d
unfolding json_value
value_of_reading text d reads whole =
    ap (λ r. r >>= (λ value. needs (numbers_are_whole value) Number >>= (λ _. Ok value))) reads
    ∙ ap (λ test. needs test Number >>= (λ _. Ok d)) whole

pub reads_back : CompactTextReadsBack
reads_back d is shallow =
    value_of_reading (compact_text d) d
    (reading_of_text (compact_text d) d (text_is_utf8 d is) (read_back d is shallow)) (numbers_whole d is)
