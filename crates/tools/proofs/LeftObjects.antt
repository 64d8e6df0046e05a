-- The objects that are left of a set.
use Rattle.std.proofs.Common.{◌≡◌, ◌∙◌, ℕ, zero, suc, ◌+◌, ◌<◌, ◌≤◌, Bool, true, false, if◌then◌else◌, List, [], ◌∷◌, ◌++◌, length, drop, get_or, refl, sym, ap, arith}
use Rattle.std.proofs.lemmas.Bool.{or_parts}
use Rattle.std.proofs.lemmas.List.{drop_all}
use Rattle.serde_json.specs.Data.{Items, no_items, item}
use Rattle.serde_json.specs.View.{view, items_view}
use Rattle.serde_json.specs.Written.{has_float, items_have_float}
use Rattle.serde_json.specs.declared.value.Value.{Value}
use Rattle.keys.specs.Texts.{is_among}
use Rattle.tools.specs.Sets.{joined_items, left}
use Rattle.tools.proofs.JoinedKeys.{items_view_append, next_is}

pub joined_items_none : (xs : Items) → joined_items xs no_items ≡ xs
joined_items_none no_items = refl
joined_items_none (item x xs) = ap (item x) (joined_items_none xs)

pub joined_items_assoc : (xs ys zs : Items) → joined_items (joined_items xs ys) zs ≡ joined_items xs (joined_items ys zs)
joined_items_assoc no_items ys zs = refl
joined_items_assoc (item x xs) ys zs = ap (item x) (joined_items_assoc xs ys zs)

pub left_none : (names prints : List (List ℕ)) → left names prints no_items ≡ no_items
left_none names [] = refl
left_none names (print ∷ prints) = refl

-- what is left of objects without floats has none
pub no_float_left : (names prints : List (List ℕ)) (objects : Items) → items_have_float objects ≡ false → items_have_float (left names prints objects) ≡ false
no_float_left names [] objects h = refl
no_float_left names (print ∷ prints) no_items h = refl
no_float_left names (print ∷ prints) (item value values) h =
    let parts = or_parts (has_float value) (items_have_float values) h in by_test (is_among names print) parts.0 (no_float_left names prints values parts.1)
  where
    by_test : (named : Bool) → has_float value ≡ false → items_have_float (left names prints values) ≡ false
        → items_have_float (if named then left names prints values else item value (left names prints values)) ≡ false
    by_test true here later = later
    by_test false here later = rw (here, later) refl

-- ---- one more object

some_item : {X : Type 0} (xs : List X) (i : ℕ) → i < length xs → (x : X) × (x ≡ get_or xs i x)
some_item [] i below = absurd (omega arith)
some_item (x ∷ xs) zero below = (x, refl)
some_item (x ∷ xs) (suc i) below = some_item xs i (omega arith)

-- what was kept, and what will be of the objects from this place on
abbrev pub kept_and_left : List (List ℕ) → List (List ℕ) → List Value → List Value → ℕ → Items
kept_and_left names prints objects kept i = joined_items (items_view kept) (left names (drop i prints) (items_view (drop i objects)))

pub is_kept : (names prints : List (List ℕ)) (objects kept new : List Value) (i : ℕ) (print : List ℕ) (object copy : Value) → i < length prints
    → print ≡ get_or prints i print → i < length objects → object ≡ get_or objects i object → is_among names print ≡ false → view copy ≡ view object
    → new ≡ kept ++ copy ∷ [] → kept_and_left names prints objects new (i + 1) ≡ kept_and_left names prints objects kept i
is_kept names prints objects kept new i print object copy below here within there not_named same more =
    let rest : Items = left names (drop (i + 1) prints) (items_view (drop (i + 1) objects)) in
    ap (λ items. joined_items items rest) (ap items_view more ∙ items_view_append kept (copy ∷ []))
    ∙ joined_items_assoc (items_view kept) (item (view copy) no_items) rest
    ∙ ap (λ d. joined_items (items_view kept) (item d rest)) same
    ∙ rw (next_is prints i print below here, next_is objects i object within there, not_named) refl

pub is_left_out : (names prints : List (List ℕ)) (objects kept new : List Value) (i : ℕ) (print : List ℕ) → i < length prints
    → print ≡ get_or prints i print → i < length objects → is_among names print ≡ true → new ≡ kept
    → kept_and_left names prints objects new (i + 1) ≡ kept_and_left names prints objects kept i
is_left_out names prints objects kept new i print below here within named same =
    let object = some_item objects i within in
    rw (same, next_is prints i print below here, next_is objects i object.0 within object.1, named) refl

pub is_past : (names prints : List (List ℕ)) (objects kept new : List Value) (i : ℕ) → length objects ≤ i → new ≡ kept
    → kept_and_left names prints objects new (i + 1) ≡ kept_and_left names prints objects kept i
is_past names prints objects kept new i past same = rw same (ap (joined_items (items_view kept)) (
    ap (λ xs. left names (drop (i + 1) prints) (items_view xs)) (drop_all (i + 1) objects (omega arith)) ∙ left_none names (drop (i + 1) prints)
    ∙ sym (ap (λ xs. left names (drop i prints) (items_view xs)) (drop_all i objects past) ∙ left_none names (drop i prints))))

-- after the last one
pub all_left : (names prints : List (List ℕ)) (objects kept : List Value) (i : ℕ) → length prints ≤ i
    → kept_and_left names prints objects kept i ≡ left names prints (items_view objects) → items_view kept ≡ left names prints (items_view objects)
all_left names prints objects kept i past is = sym (joined_items_none (items_view kept))
    ∙ ap (λ xs. joined_items (items_view kept) (left names xs (items_view (drop i objects)))) (sym (drop_all i prints past)) ∙ is
