-- The results of reading a JSON value: texts that are octets, and headers that are JSON and nest less deeply than the value.
use Rattle.std.proofs.Common.{◌≡◌, ◌≤◌, ℕ, suc, List, [], Bool, true, false, Option, Some, None, Ok, IsUtf8, length, nat_le, refl, sym, subst, arith}
use Rattle.std.proofs.lemmas.Bool.{and_parts, cond_both}
use Rattle.std.specs.List.{AllByRecursion}
use Rattle.std.specs.Option.{ok_or}
use Rattle.std.specs.Prelude.{◌&&◌, if◌then◌else◌, option_and_then, Result}
use Rattle.serde_json.specs.Data.{Data, object, Items, no_items, item, Members, no_members, depth, items_depth}
use Rattle.serde_json.specs.Find.{get, as_str, as_array, as_object}
use Rattle.octets.specs.declared.refusal.Refusal.{Refusal}
use Rattle.octets.specs.declared.refusal.Refusal.TheVariants.{Form}
use Rattle.octets.specs.Base64url.{base64url, decoded}
use Rattle.octets.specs.LineEnds.{without_line_end}
use Rattle.octets.specs.Octets.{IsOctets}
use Rattle.octets.specs.Outcomes.{◌>>=◌, needs}
use Rattle.octets.proofs.Lemmas.{IsOctets-nil, steps, passed, same_answer, is_there, has_url_characters, octets_of_meaning, IsOctets-without_line_end, text_of_meaning}
use Rattle.keys.specs.Json.{json_value, member_numbers_are_whole}
use Rattle.keys.specs.JsonTexts.{IsJson, AreJsonItems, AreJsonMembers}
use Rattle.keys.specs.KeySets.{are_objects, items_count}
use Rattle.keys.proofs.Lemmas.{string_octets, numbers_whole, keep_json, reads_json, url_texts_are_json}
use Rattle.objects.specs.Headers.{header_at, members_if_there}
use Rattle.objects.specs.Texts.{each_item, text_if_there, text_at, required_text, has_items, object_list, depth_of_each}
use Rattle.objects.proofs.EachRead.{all_items_read, as_many_items}

-- A text that decodes is UTF-8.
pub text_is_json : (text octets : List ℕ) → IsOctets text → decoded text ≡ Ok octets → IsUtf8 text
text_is_json text octets is h =
    let same : text ≡ base64url octets = text_of_meaning text octets is h in
    subst IsUtf8 (sym same) (url_texts_are_json (base64url octets) (has_url_characters octets (octets_of_meaning text octets is h))).0

-- the value is JSON and at most n deep
pub record IsShallow (n : ℕ) (d : Data) : Type 0 where
  pub json : IsJson d
  pub shallow : depth d ≤ n

-- A text reads as a JSON value that is at most 127 deep.
value_shallow : (text : List ℕ) (d : Data) → json_value text ≡ Ok d → IsShallow 127 d
value_shallow text d h = let is = reads_json text d h in record { json = is.0; shallow = is.1 }

-- If P holds of everything that is read from a JSON value or from a line, it holds of everything that is read from a text.
pub of_text : {T : Type 0} (P : T → Type 0) (json : Data → Result T Refusal) (compact : List ℕ → Result T Refusal)
    → ((d : Data) (t : T) → IsShallow 127 d → json d ≡ Ok t → P t)
    → ((line : List ℕ) (t : T) → IsOctets line → compact line ≡ Ok t → P t) → (b : Bool) (text : List ℕ) (t : T) → IsOctets text
    → (if b then (json_value text >>= json) else compact (without_line_end text)) ≡ Ok t → P t
of_text P json compact of_json of_compact true text t octets h =
    let a = steps (json_value text) json t h in
    of_json a.0 t (value_shallow text a.0 a.1) a.2
of_text P json compact of_json of_compact false text t octets h = of_compact (without_line_end text) t (IsOctets-without_line_end text octets) h

-- the members are JSON, and the header is at most n deep
pub record IsHeader (n : ℕ) (header : Members) : Type 0 where
  pub json : AreJsonMembers header
  pub shallow : depth (object header) ≤ n

-- The empty header is JSON and at most 1 deep.
pub no_header : (n : ℕ) → 1 ≤ n → IsHeader n no_members
no_header n some = record { json = tt; shallow = some }

-- The numbers of a header are whole.
pub header_whole : (n : ℕ) (header : Members) → IsHeader n header → member_numbers_are_whole header ≡ true
header_whole n header is = numbers_whole (object header) is.json

-- ---- texts

text_by : (name : List ℕ) (d : Data) (o : Option Data) (text : List ℕ) → IsJson d → get name d ≡ o → text_if_there o ≡ Ok text → IsOctets text
text_by name d None text is e h = subst IsOctets (same_answer [] text h) IsOctets-nil
text_by name d (Some value) text is e h = string_octets value text (keep_json.found name d value is e).0 (is_there (as_str value) Form text h)

required_by : (name : List ℕ) (d : Data) (o : Option Data) (text : List ℕ) → IsJson d → get name d ≡ o
    → ok_or (option_and_then as_str o) Form ≡ Ok text → IsOctets text
required_by name d None text is e h = cc h
required_by name d (Some value) text is e h = text_by name d (Some value) text is e h

pub text_octets : (name : List ℕ) (d : Data) (text : List ℕ) → IsJson d → text_at name d ≡ Ok text → IsOctets text
unfolding text_at
text_octets name d text is h = text_by name d (get name d) text is refl h

pub required_octets : (name : List ℕ) (d : Data) (text : List ℕ) → IsJson d → required_text name d ≡ Ok text → IsOctets text
unfolding required_text
required_octets name d text is h = required_by name d (get name d) text is refl h

-- ---- headers

header_by : (n : ℕ) (name : List ℕ) (d : Data) (o : Option Data) (header : Members) → 1 ≤ n → IsShallow (suc n) d → get name d ≡ o
    → members_if_there o ≡ Ok header → IsHeader n header
header_by n name d None header some is e h = subst (IsHeader n) (same_answer no_members header h) (no_header n some)
header_by n name d (Some value) header some is e h =
    let found = keep_json.found name d value is.json e in
    let members = keep_json.members_of value header found.0 (is_there (as_object value) Form header h) in
    record { json = members.0; shallow = omega (arith, is.shallow, found.1, members.1) }

-- A header nests less deeply than the object that it is in.
pub header_shallow : (n : ℕ) (name : List ℕ) (d : Data) (header : Members) → 1 ≤ n → IsShallow (suc n) d → header_at name d ≡ Ok header → IsHeader n header
unfolding header_at
header_shallow n name d header some is h = header_by n name d (get name d) header some is refl h

-- ---- objects, one or a list

-- at least one object, each no deeper than its header may be
pub record AreObjects (items : Items) : Type 0 where
  pub json : AreJsonItems items
  pub shallow : items_depth items ≤ suc (depth_of_each (items_count items))
  pub some : 1 ≤ items_count items

-- A single value is a list of one object.
pub alone : (d : Data) → IsShallow 127 d → AreObjects (item d no_items)
alone d is = record { json = (is.json, tt); shallow = omega (arith, is.shallow); some = omega arith }

-- For any number of objects, each may be at least 124 deep.
listed_at_least : (n : ℕ) → 124 ≤ depth_of_each n
listed_at_least n = cond_both (nat_le n 1) 126 124 (λ k. 124 ≤ k) (λ _. omega arith) (λ _. omega arith)

some_items : (items : Items) → has_items items ≡ true → 1 ≤ items_count items
some_items no_items h = cc h
some_items (item d rest) h = omega arith

-- A list of objects in a value has at least one object, and none is deeper than its header may be.
pub listed : (name : List ℕ) (d list : Data) (items : Items) → IsShallow 127 d → get name d ≡ Some list → object_list list ≡ Ok items → AreObjects items
unfolding object_list
listed name d list items is e h =
    let a = steps (ok_or (as_array list) Form) _ items h in
    let b = steps (needs (has_items a.0 && are_objects a.0) Form) _ items a.2 in
    let same : a.0 ≡ items = same_answer a.0 items b.2 in
    let found = keep_json.found name d list is.json e in
    let inner = keep_json.items_of list a.0 found.0 (is_there (as_array list) Form a.0 a.1) in
    let some = some_items a.0 (and_parts (has_items a.0) (are_objects a.0) (passed _ Form b.0 b.1)).0 in
    subst AreObjects same (record { json = inner.0; shallow = omega (arith, is.shallow, found.1, inner.1, listed_at_least (items_count a.0)); some = some })

-- If P holds of the result of reading each object, it holds of all results.
pub each_is : {Y : Type 0} (P : ℕ → Y → Type 0) (read : Data → Result Y Refusal)
    → ((n : ℕ) (d : Data) (y : Y) → 1 ≤ n → IsShallow (suc n) d → read d ≡ Ok y → P n y)
    → (items : Items) (ys : List Y) → AreObjects items → each_item read items ≡ Ok ys → AllByRecursion (P (depth_of_each (length ys))) ys × (1 ≤ length ys)
each_is {Y = Y} P read one items ys are h =
    let many : length ys ≡ items_count items = as_many_items read items ys h in
    let n : ℕ = depth_of_each (items_count items) in
    let deep : 1 ≤ n = omega (arith, listed_at_least (items_count items)) in
    let each : (d : Data) (y : Y) → IsJson d → depth d ≤ suc n → read d ≡ Ok y → P n y =
    λ d y json shallow is. one n d y deep (record { json = json; shallow = shallow }) is in
    let all : AllByRecursion (P n) ys = all_items_read (P n) (suc n) read each items ys are.json are.shallow h in
    (subst (λ k. AllByRecursion (P (depth_of_each k)) ys) (sym many) all, omega (arith, are.some))
