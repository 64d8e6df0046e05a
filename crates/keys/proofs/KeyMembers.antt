-- The members of a key that is made.
use Rattle.std.proofs.Common.{◌≡◌, ℕ, List, [], ◌∷◌, map, Bor, Bool, true, false, cond, if◌then◌else◌, Option, Some, None, option_map, is_some, is_eq, String, Global, string_bytes, Result, Ok, Err, OnOk, Ordering, Less, Equal, Greater, nat_cmp, refl, sym, ap, ◌∙◌, rules}
use Rattle.std.specs.BTreeMap.{is_at}
use Rattle.std.specs.Cmp.Lexicographic.{slice_cmp}
use Rattle.std.specs.Map.{remove_entry, lookup}
use Rattle.std.specs.Ordering.{match_ordering}
use Rattle.serde_json.specs.Data.{string, item, Members, member}
use Rattle.serde_json.specs.Find.{get_member}
use Rattle.serde_json.specs.View.{view, items_of, members_view}
use Rattle.serde_json.specs.declared.value.Value.{the_lemmas}
use Rattle.serde_json.specs.declared.value.Value.TheVariants as Value
use Rattle.serde_json.proofs.Views.{Entry, view-lookup}
use Rattle.keys.specs.Generating.{string_items, without}

-- ---- texts

pub view-String : (s : String Global) → view (Value.String s) ≡ string (string_bytes s)
view-String s = search (rules, the_lemmas)

pub strings_are_items : (texts : List (Bor (List ℕ))) → items_of (map (λ t. string t.now) texts) ≡ string_items (map (λ t. t.now) texts)
strings_are_items [] = refl
strings_are_items (text ∷ texts) = ap (item (string text.now)) (strings_are_items texts)

-- ---- the entries of a map and the members that they represent

removed_at : (o : Ordering) (e : Entry) (es rest : List Entry) (ms : Members) → members_view rest ≡ ms
    → members_view (cond (is_eq o) es (e ∷ rest)) ≡ match_ordering o (member (string_bytes e.0) (view e.1) ms) (members_view es)
    (member (string_bytes e.0) (view e.1) ms)
removed_at Less e es rest ms h = ap (member (string_bytes e.0) (view e.1)) h
removed_at Equal e es rest ms h = refl
removed_at Greater e es rest ms h = ap (member (string_bytes e.0) (view e.1)) h

pub members_view-remove_entry : (name : List ℕ) (es : List Entry)
    → members_view (remove_entry (is_at (λ k. slice_cmp nat_cmp name (string_bytes k))) es) ≡ without name (members_view es)
members_view-remove_entry name [] = refl
members_view-remove_entry name (e ∷ es) = removed_at (slice_cmp nat_cmp name (string_bytes e.0)) e es _ _ (members_view-remove_entry name es)

is_some-option_map : {A B : Type 0} (f : A → B) (o : Option A) → is_some (option_map f o) ≡ is_some o
is_some-option_map f None = refl
is_some-option_map f (Some a) = refl

-- A map has a key exactly if the members have its name.
pub has_member : (name : List ℕ) (es : List Entry)
    → is_some (lookup (is_at (λ k. slice_cmp nat_cmp name (string_bytes k))) es) ≡ is_some (get_member name (members_view es))
has_member name es = sym (is_some-option_map view (lookup (is_at (λ k. slice_cmp nat_cmp name (string_bytes k))) es)) ∙ ap is_some (view-lookup name es)

-- ---- a choice by two tests

pub by_first : {X : Type 0} (p q : Bool) (x y : X) → p ≡ true → x ≡ (if p then x else (if q then x else y))
by_first true q x y h = refl
by_first false q x y h = cc h

pub by_second : {X : Type 0} (p q : Bool) (x y : X) → q ≡ true → x ≡ (if p then x else (if q then x else y))
by_second true q x y h = refl
by_second false true x y h = refl
by_second false false x y h = cc h

pub by_neither : {X : Type 0} (p q : Bool) (x y : X) → p ≡ false → q ≡ false → y ≡ (if p then x else (if q then x else y))
by_neither true q x y h k = cc h
by_neither false true x y h k = cc k
by_neither false false x y h k = refl

-- ---- results

pub on_ok : {X E A B : Type 0} (r : Result X E) → (A → B) → OnOk r A → OnOk r B
on_ok (Ok x) f h = f h
on_ok (Err e) f h = tt
