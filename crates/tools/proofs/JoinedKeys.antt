-- Keys and objects that are joined, one text after another.
use Rattle.std.proofs.Common.{◌≡◌, ◌∙◌, ℕ, suc, ◌+◌, ◌<◌, true, false, ◌||◌, List, [], ◌∷◌, ◌++◌, length, map, take, drop, get_or, Some, refl, sym, ap, add-one, append_assoc, drop-cons}
use Rattle.std.proofs.lemmas.Bool.{or_parts}
use Rattle.std.proofs.lemmas.List.{append-nil, map-append, take_more}
use Rattle.std.proofs.lemmas.List.Folds.{list_any-append}
use Rattle.std.specs.Str.{bytes_eq}
use Rattle.serde_json.specs.Data.{Items, no_items, item}
use Rattle.serde_json.specs.View.{view, items_view}
use Rattle.serde_json.specs.Written.{has_float, items_have_float}
use Rattle.serde_json.specs.declared.value.Value.{Value}
use Rattle.keys.specs.Keys.{OctetKey}
use Rattle.keys.specs.KeySets.{items_count}
use Rattle.tools.specs.Sets.{first_twice, has_octets, joined_items}
use Rattle.tools.specs.SetViews.{all_keys}

-- ---- objects

pub items_view_append : (xs ys : List Value) → items_view (xs ++ ys) ≡ joined_items (items_view xs) (items_view ys)
items_view_append [] ys = refl
items_view_append (x ∷ xs) ys = ap (item (view x)) (items_view_append xs ys)

pub no_float_joined : (xs ys : Items) → items_have_float xs ≡ false → items_have_float ys ≡ false → items_have_float (joined_items xs ys) ≡ false
no_float_joined no_items ys hx hy = hy
no_float_joined (item x xs) ys hx hy = let parts = or_parts (has_float x) (items_have_float xs) hx in rw (parts.0, no_float_joined xs ys parts.1 hy) refl

pub counted : (values : List Value) → items_count (items_view values) ≡ length values
counted [] = refl
counted (value ∷ values) = ap suc (counted values)

-- ---- keys

pub all_keys_append : (sets : List (List OctetKey)) (keys : List OctetKey) → all_keys (sets ++ keys ∷ []) ≡ all_keys sets ++ keys
all_keys_append [] keys = append-nil keys
all_keys_append (set ∷ sets) keys = ap (λ rest. set ++ rest) (all_keys_append sets keys) ∙ sym (append_assoc set (all_keys sets) keys)

-- ---- keys that are there twice

pub among_both : (earlier front : List OctetKey) (octets : List ℕ)
    → (has_octets earlier octets || has_octets front octets) ≡ has_octets (earlier ++ front) octets
among_both earlier front octets = sym (list_any-append (λ key. bytes_eq key.octets octets) earlier front)

pub next_is : {X : Type 0} (keys : List X) (i : ℕ) (key : X) → i < length keys → key ≡ get_or keys i key → drop i keys ≡ key ∷ drop (i + 1) keys
next_is keys i key below here = drop-cons keys i key below ∙ ap (λ x. x ∷ drop (suc i) keys) (sym here) ∙ ap (λ n. key ∷ drop n keys) (sym (add-one i))

pub found_twice : {X : Type 0} (v : X → OctetKey) (earlier : List OctetKey) (keys : List X) (i : ℕ) (key : X) → i < length keys → key ≡ get_or keys i key
    → has_octets (earlier ++ map v (take i keys)) (v key).octets ≡ true
    → first_twice (earlier ++ map v (take i keys)) (map v (drop i keys)) ≡ Some (v key)
found_twice v earlier keys i key below here is = rw (next_is keys i key below here, is) refl

pub not_twice : {X : Type 0} (v : X → OctetKey) (earlier : List OctetKey) (keys : List X) (i : ℕ) (key : X) → i < length keys → key ≡ get_or keys i key
    → has_octets (earlier ++ map v (take i keys)) (v key).octets ≡ false
    → first_twice (earlier ++ map v (take i keys)) (map v (drop i keys)) ≡ first_twice (earlier ++ map v (take (i + 1) keys)) (map v (drop (i + 1) keys))
not_twice v earlier keys i key below here is =
    let more : (earlier ++ map v (take i keys)) ++ v key ∷ [] ≡ earlier ++ map v (take (i + 1) keys)
    = append_assoc earlier (map v (take i keys)) (v key ∷ []) ∙ ap (λ xs. earlier ++ xs) (sym (map-append v (take i keys) (key ∷ []))
    ∙ ap (map v) (ap (λ x. take i keys ++ x ∷ []) here ∙ sym (take_more keys i key below))) in
    ap (λ xs. first_twice (earlier ++ map v (take i keys)) (map v xs)) (next_is keys i key below here)
    ∙ rw is (ap (λ front. first_twice front (map v (drop (i + 1) keys))) more)
