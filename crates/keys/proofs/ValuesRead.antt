-- A value that is read from a text has each name once and in order, its strings are UTF-8, and its numbers are whole and have 64 bits.
use Rattle.std.proofs.Common.{◌≡◌, ℕ, zero, suc, ◌^◌, ◌<◌, ◌≤◌, pos, negsuc, neg_ℤ, List, [], ◌∷◌, Bool, true, false, cond, Option, Some, None, option_map, option_and_then, Result, Ok, Err, nat_lt, nat_le, refl, ap, sym, ◌∙◌, subst, arith, Ordering, Less, Equal, Greater, nat_cmp, IsUtf8}
use Rattle.std.proofs.lemmas.Bool.{and_parts, ltb-true, leb-true}
use Rattle.std.proofs.lemmas.Str.{IsUtf8-from_is_utf8}
use Rattle.std.specs.Cmp.Lexicographic.{slice_cmp}
use Rattle.std.specs.Float.{binary64, float_is_finite}
use Rattle.std.specs.Float.Numeral.{minus, Parts, scan_numeral, numeral_digits, nearest_float}
use Rattle.std.specs.Option.{ok_or}
use Rattle.std.specs.Ordering.{match_ordering}
use Rattle.std.specs.Prelude.{⊤, ◌&&◌, ◌==◌, drop, slice_index}
use Rattle.std.specs.Str.{is_utf8}
use Rattle.json.specs.Json as json
use Rattle.json.specs.Lex.{tokens}
use Rattle.json.specs.Token.{Token}
use Rattle.serde_json.proofs.Nesting.{depth-read}
use Rattle.serde_json.specs.Data.{Num, unsigned, negative, float, Data, null, boolean, number, string, array, object, Items, no_items, item, Members, no_members, member, put}
use Rattle.serde_json.specs.Read.{max_depth, read, of_json, of_items, of_members, number_of, number_from, float_of, is_integer}
use Rattle.octets.specs.Outcomes.{◌>>=◌, needs}
use Rattle.octets.specs.declared.refusal.Refusal.{Refusal}
use Rattle.octets.specs.declared.refusal.Refusal.TheVariants.{Json, Number}
use Rattle.keys.proofs.JsonParts.{before_later, before_put, greater}
use Rattle.keys.proofs.TokensRead.{HasTexts, ItemsHaveTexts, MembersHaveTexts, texts_read}
use Rattle.keys.specs.Json.{json_reading, json_value, is_whole, numbers_are_whole, item_numbers_are_whole, member_numbers_are_whole}
use Rattle.keys.specs.JsonTexts.{IsJsonNumber, IsBefore, IsJson, AreJsonItems, AreJsonMembers, ReadsJson}

-- ---- if there is a value, the fact holds of it

abbrev Every : {A : Type 0} → (A → Type 0) → Option A → Type 0
Every P None = ⊤
Every P (Some a) = P a

every_map : {A B : Type 0} (P : A → Type 0) (Q : B → Type 0) (f : A → B) → ((a : A) → P a → Q (f a)) → (o : Option A) → Every P o → Every Q (option_map f o)
every_map P Q f k None h = tt
every_map P Q f k (Some a) h = k a h

every_and_then : {A B : Type 0} (P : A → Type 0) (Q : B → Type 0) (f : A → Option B) → ((a : A) → P a → Every Q (f a)) → (o : Option A) → Every P o
    → Every Q (option_and_then f o)
every_and_then P Q f k None h = tt
every_and_then P Q f k (Some a) h = k a h

every_cond : {A : Type 0} (P : A → Type 0) (b : Bool) (x y : Option A) → (b ≡ true → Every P x) → Every P y → Every P (cond b x y)
every_cond P true x y f g = f refl
every_cond P false x y f g = g

-- ---- values whose floats are not restricted

abbrev IsTidyNumber : Num → Type 0
IsTidyNumber (unsigned n) = n < 2 ^ 64
IsTidyNumber (negative (pos n)) = ⊥
IsTidyNumber (negative (negsuc n)) = n < 2 ^ 63
IsTidyNumber (float x) = ⊤

abbrev mutual
  IsTidy : Data → Type 0
  IsTidy null = ⊤
  IsTidy (boolean b) = ⊤
  IsTidy (number n) = IsTidyNumber n
  IsTidy (string s) = IsUtf8 s
  IsTidy (array ds) = AreTidyItems ds
  IsTidy (object ms) = AreTidyMembers ms

  AreTidyItems : Items → Type 0
  AreTidyItems no_items = ⊤
  AreTidyItems (item d ds) = IsTidy d × AreTidyItems ds

  AreTidyMembers : Members → Type 0
  AreTidyMembers no_members = ⊤
  AreTidyMembers (member k d ms) = IsUtf8 k × IsBefore k ms × IsTidy d × AreTidyMembers ms

-- ---- numbers

tidy_negative : (n : ℕ) → 0 < n → n ≤ 2 ^ 63 → IsTidyNumber (negative (neg_ℤ (pos n)))
tidy_negative zero h k = absurd (omega arith)
tidy_negative (suc n) h k = omega arith

tidy_float : (sign : Bool) (p : Parts) → Every IsTidyNumber (float_of sign p)
tidy_float sign p =
    let x = nearest_float binary64 sign p in
    every_cond IsTidyNumber (float_is_finite x) (Some (float x)) None (λ _. tt {0}) (tt {0})

tidy_from : (sign : Bool) (p : Parts) → Every IsTidyNumber (number_from sign p)
tidy_from false p = every_cond IsTidyNumber (is_integer p && nat_lt (numeral_digits p) (2 ^ 64)) (Some (unsigned (numeral_digits p))) (float_of false p)
    (λ h. ltb-true _ _ (and_parts (is_integer p) _ h).1) (tidy_float false p)
tidy_from true p =
    every_cond IsTidyNumber (is_integer p && nat_lt 0 (numeral_digits p) && nat_le (numeral_digits p) (2 ^ 63))
    (Some (negative (neg_ℤ (pos (numeral_digits p))))) (float_of true p)
    (λ h. let parts = and_parts (is_integer p && nat_lt 0 (numeral_digits p)) _ h in
    tidy_negative (numeral_digits p) (ltb-true _ _ (and_parts (is_integer p) _ parts.0).1) (leb-true _ _ parts.1))
    (tidy_float true p)

tidy_either : (b : Bool) (x y : Option Num) → Every IsTidyNumber x → Every IsTidyNumber y → Every IsTidyNumber (cond b x y)
tidy_either true x y h k = h
tidy_either false x y h k = k

tidy_number : (s : List ℕ) → Every IsTidyNumber (number_of s)
unfolding number_of
tidy_number s = tidy_either (slice_index s 0 == minus) (number_from true (scan_numeral (drop 1 s))) (number_from false (scan_numeral s))
    (tidy_from true (scan_numeral (drop 1 s))) (tidy_from false (scan_numeral s))

-- ---- members

tidy_put_at : (o : Ordering) (k l : List ℕ) (d e : Data) (ms : Members) → slice_cmp nat_cmp k l ≡ o → IsUtf8 k → IsTidy d → AreTidyMembers (member l e ms)
    → AreTidyMembers (put k d ms)
    → AreTidyMembers (match_ordering o (member k d (member l e ms)) (member l d ms) (member l e (put k d ms)))
tidy_put_at Less k l d e ms is u t h more = (u, (is, before_later k l ms is h.1), t, h)
tidy_put_at Equal k l d e ms is u t h more = (h.0, h.1, t, h.3)
tidy_put_at Greater k l d e ms is u t h more = (h.0, before_put l k d ms (greater k l is) h.1, h.2, more)

tidy_put : (k : List ℕ) (d : Data) (ms : Members) → IsUtf8 k → IsTidy d → AreTidyMembers ms → AreTidyMembers (put k d ms)
tidy_put k d no_members u t h = (u, tt, t, tt)
tidy_put k d (member l e ms) u t h = tidy_put_at _ k l d e ms refl u t h (tidy_put k d ms u t h.3)

mutual
  tidy_json : (j : json.Json) → HasTexts j → Every IsTidy (of_json j)
  tidy_json json.null u = tt
  tidy_json (json.boolean b) u = tt
  tidy_json (json.number s) u = every_map IsTidyNumber IsTidy number (λ a h. h) (number_of s) (tidy_number s)
  tidy_json (json.string s) u = u
  tidy_json (json.array js) u = every_map AreTidyItems IsTidy array (λ a h. h) _ (tidy_items js u)
  tidy_json (json.object ms) u = every_map AreTidyMembers IsTidy object (λ a h. h) _ (tidy_members ms no_members u tt)

  tidy_items : (js : json.Items) → ItemsHaveTexts js → Every AreTidyItems (of_items js)
  tidy_items json.no_items u = tt
  tidy_items (json.item j js) u = every_and_then IsTidy AreTidyItems _
      (λ d h. every_map AreTidyItems AreTidyItems (item d) (λ ds k. (h, k)) _ (tidy_items js u.1)) _ (tidy_json j u.0)

  tidy_members : (ms : json.Members) (found : Members) → MembersHaveTexts ms → AreTidyMembers found → Every AreTidyMembers (of_members ms found)
  tidy_members json.no_members found u h = h
  tidy_members (json.member k j ms) found u h = every_and_then IsTidy AreTidyMembers _
      (λ d t. tidy_members ms (put k d found) u.2 (tidy_put k d found u.0 t h)) _ (tidy_json j u.1)

-- ---- a tidy value with whole numbers

json_number : (n : Num) → IsTidyNumber n → is_whole n ≡ true → IsJsonNumber n
json_number (unsigned n) h w = h
json_number (negative (pos n)) h w = h
json_number (negative (negsuc n)) h w = h
json_number (float x) h w = cc w

mutual
  json_of : (d : Data) → IsTidy d → numbers_are_whole d ≡ true → IsJson d
  json_of null h w = tt
  json_of (boolean b) h w = tt
  json_of (number n) h w = json_number n h w
  json_of (string s) h w = h
  json_of (array ds) h w = json_items ds h w
  json_of (object ms) h w = json_members ms h w

  json_items : (ds : Items) → AreTidyItems ds → item_numbers_are_whole ds ≡ true → AreJsonItems ds
  json_items no_items h w = tt
  json_items (item d ds) h w = let p = and_parts (numbers_are_whole d) _ w in (json_of d h.0 p.0, json_items ds h.1 p.1)

  json_members : (ms : Members) → AreTidyMembers ms → member_numbers_are_whole ms ≡ true → AreJsonMembers ms
  json_members no_members h w = tt
  json_members (member k d ms) h w = let p = and_parts (numbers_are_whole d) _ w in (h.0, h.1, json_of d h.2 p.0, json_members ms h.3 p.1)

-- ---- the value that a text reads as

last_has : (text : List ℕ) (o : Option (json.Json × List Token)) → IsUtf8 text → json.value max_depth (tokens text) ≡ o
    → Every HasTexts (option_and_then (λ p. json.if_last p.0 p.1) o)
last_has text None u e = tt
last_has text (Some (j, [])) u e = texts_read text j [] u e
last_has text (Some (j, t ∷ ts)) u e = tt

tidy_read : (text : List ℕ) (d : Data) → IsUtf8 text → read text ≡ Some d → IsTidy d
tidy_read text d u e = subst (Every IsTidy) e (every_and_then HasTexts IsTidy of_json tidy_json _ (last_has text _ u refl))

whole_by : (b : Bool) (v d : Data) → (needs b Number >>= (λ _. Ok v)) ≡ Ok d → (v ≡ d) × (b ≡ true)
whole_by true v d e = (cc e, refl)
whole_by false v d e = cc e

value_parts : (r : Result Data Refusal) (d : Data) → (r >>= (λ value. needs (numbers_are_whole value) Number >>= (λ _. Ok value))) ≡ Ok d
    → (r ≡ Ok d) × (numbers_are_whole d ≡ true)
value_parts (Err e) d is = cc is
value_parts (Ok v) d is = let parts = whole_by (numbers_are_whole v) v d is in (ap Ok parts.0, ap numbers_are_whole (sym parts.0) ∙ parts.1)

found_in : (o : Option Data) (d : Data) → ok_or o Json ≡ Ok d → o ≡ Some d
found_in None d is = cc is
found_in (Some v) d is = let same : v ≡ d = cc is in ap Some same

reading_by : (b : Bool) (text : List ℕ) (d : Data) → is_utf8 text ≡ b → cond b (ok_or (read text) Json) (Err Json) ≡ Ok d → IsUtf8 text × (read text ≡ Some d)
reading_by true text d e is = (IsUtf8-from_is_utf8 text e, found_in (read text) d is)
reading_by false text d e is = cc is

reading_parts : (text : List ℕ) (d : Data) → json_reading text ≡ Ok d → IsUtf8 text × (read text ≡ Some d)
unfolding json_reading
reading_parts text d is = reading_by (is_utf8 text) text d refl is

pub reads_json : ReadsJson
unfolding json_value
reads_json text d is =
    let parts = value_parts (json_reading text) d is in
    let from = reading_parts text d parts.0 in
    (json_of d (tidy_read text d from.0 from.1) parts.1, depth-read text d from.1)
