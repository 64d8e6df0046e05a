-- The key objects of values, and their keys.
use Rattle.std.proofs.Common.{◌≡◌, ◌∙◌, ◌==◌, not, nat_le, ℕ, Bool, true, false, if◌then◌else◌, List, length, codes, Option, Some, None, Ok, Err, refl, sym, ap, subst}
use Rattle.std.proofs.lemmas.Bool.{and_from}
use Rattle.serde_json.specs.Data.{Data, null, boolean, number, string, array, object, Items, no_items, item}
use Rattle.serde_json.specs.Find.{get}
use Rattle.octets.specs.declared.refusal.Refusal.TheVariants.{Key, Limit}
use Rattle.octets.specs.Outcomes.{◌>>=◌, needs}
use Rattle.octets.proofs.Lemmas.{steps, passed, same_answer}
use Rattle.keys.specs.Json.{is_object, json_value}
use Rattle.keys.specs.JsonTexts.{IsJson, AreJsonItems, KeepJson}
use Rattle.keys.specs.Keys.{OctetKey}
use Rattle.keys.specs.KeySets.{are_objects, items_count, key_objects, key_set, objects_at, octet_keys, value_keys}
use Rattle.keys.specs.Limits.{limits}

-- ---- key objects

-- The key objects of a JSON value are JSON values, and objects.
pub objects_of : (keep : KeepJson) (value : Data) (objects : Items) → IsJson value → key_objects value ≡ Ok objects
    → AreJsonItems objects × (are_objects objects ≡ true)
unfolding key_objects
objects_of keep value objects json is = by_object (is_object value) refl is
  where
    by_items : (items : Items) (test : Bool) → are_objects items ≡ test → AreJsonItems items
        → (needs test Key >>= λ own. Ok items) ≡ Ok objects → AreJsonItems objects × (are_objects objects ≡ true)
    by_items items true own all h = let e : items ≡ objects = cc h in (subst AreJsonItems e all, ap are_objects (sym e) ∙ own)
    by_items items false own all h = cc h

    by_list : (list : Data) → IsJson list → objects_at value (Some list) ≡ Ok objects → AreJsonItems objects × (are_objects objects ≡ true)
    by_list null j h = cc h
    by_list (boolean b) j h = cc h
    by_list (number n) j h = cc h
    by_list (string s) j h = cc h
    by_list (array items) j h = by_items items (are_objects items) refl j h
    by_list (object entries) j h = cc h

    by_found : (found : Option Data) → is_object value ≡ true → get (codes "keys") value ≡ found → objects_at value found ≡ Ok objects
        → AreJsonItems objects × (are_objects objects ≡ true)
    by_found None own at h = let e : item value no_items ≡ objects = cc h in
        (subst AreJsonItems e (json, tt), ap are_objects (sym e) ∙ and_from (is_object value) true own refl)
    by_found (Some list) own at h = by_list list (keep.found (codes "keys") value list json at).0 h

    by_object : (test : Bool) → is_object value ≡ test → (if test then objects_at value (get (codes "keys") value) else Err Key) ≡ Ok objects
        → AreJsonItems objects × (are_objects objects ≡ true)
    by_object true own h = by_found (get (codes "keys") value) own refl h
    by_object false own h = cc h

-- The keys of a value are those of its objects, and there is one.
pub keys_of : (value : Data) (objects : Items) (keys : List OctetKey) → key_objects value ≡ Ok objects → value_keys limits value true ≡ Ok keys
    → (octet_keys limits true objects ≡ Ok keys) × (not (length keys == 0) ≡ true) × (nat_le (items_count objects) limits.keys ≡ true)
unfolding value_keys
keys_of value objects keys found h =
    let a = steps (key_objects value) _ keys h in
    let same : a.0 ≡ objects = cc (a.1, found) in
    let b = steps (needs (nat_le (items_count a.0) limits.keys) Limit) _ keys a.2 in
    let d = steps (octet_keys limits true a.0) _ keys b.2 in
    let e = steps (needs (not (length d.0 == 0)) Key) _ keys d.2 in
    let is : d.0 ≡ keys = same_answer d.0 keys e.2 in
    let few : nat_le (items_count a.0) limits.keys ≡ true = passed (nat_le (items_count a.0) limits.keys) Limit b.0 b.1 in (
      ap (octet_keys limits true) (sym same) ∙ d.1 ∙ ap Ok is,
      ap (λ ks. not (length ks == 0)) (sym is) ∙ passed (not (length d.0 == 0)) Key e.0 e.1,
      ap (λ xs. nat_le (items_count xs) limits.keys) (sym same) ∙ few,
    )

pub value_of : (text : List ℕ) (value : Data) (keys : List OctetKey) → json_value text ≡ Ok value → key_set limits text true ≡ Ok keys
    → value_keys limits value true ≡ Ok keys
unfolding key_set
value_of text value keys read h =
    let a = steps (json_value text) (λ v. value_keys limits v true) keys h in
    let same : a.0 ≡ value = cc (a.1, read) in
    ap (λ v. value_keys limits v true) (sym same) ∙ a.2

-- A text of keys has one.
pub some_keys : (text : List ℕ) (keys : List OctetKey) → key_set limits text true ≡ Ok keys → not (length keys == 0) ≡ true
unfolding key_set value_keys
some_keys text keys h =
    let v = steps (json_value text) (λ v. value_keys limits v true) keys h in
    let a = steps (key_objects v.0) _ keys v.2 in
    let b = steps (needs (nat_le (items_count a.0) limits.keys) Limit) _ keys a.2 in
    let d = steps (octet_keys limits true a.0) _ keys b.2 in
    let e = steps (needs (not (length d.0 == 0)) Key) _ keys d.2 in
    ap (λ ks. not (length ks == 0)) (sym (same_answer d.0 keys e.2)) ∙ passed (not (length d.0 == 0)) Key e.0 e.1
