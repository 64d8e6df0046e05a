-- The first of places that is refused so.
use Rattle.std.proofs.Common.{◌≡◌, ◌∙◌, ℕ, ◌+◌, ◌<◌, ◌≤◌, Bool, true, false, List, [], ◌∷◌, ◌++◌, length, ◌==◌, not, drop, get_or, map, Option, Some, None, option_map, Result, Ok, Err, if◌then◌else◌, refl, ap, sym}
use Rattle.std.proofs.Math.Dec.{eqb-suc-zero}
use Rattle.std.proofs.lemmas.List.{at_drop_all}
use Rattle.std.specs.Option.{option_or}
use Rattle.serde_json.specs.Data.{Members, no_members, member}
use Rattle.serde_json.specs.View.{items_view, members_view, view}
use Rattle.serde_json.specs.declared.value.Value.{Value}
use Rattle.serde_json.proofs.Views.{Entry}
use Rattle.octets.specs.declared.refusal.Refusal.{Refusal}
use Rattle.octets.specs.Code.Results.{Agrees}
use Rattle.objects.specs.Headers.{overlap}
use Rattle.objects.specs.Texts.{has_items, has_members}
use Rattle.tools.specs.ItemPlaces.{ItemKind, each_item_places, item_name, item_places, item_text, of_item}
use Rattle.tools.specs.ObjectPlaces.{ReadEncrypted}
use Rattle.tools.specs.PlaceViews.{result_seen}
use Rattle.tools.specs.Places.{Place, first_so, is_so}
use Rattle.tools.proofs.JoinedKeys.{next_is}

both_by : (test : Bool) (text : List ℕ) (all xs ys : Option (List ℕ)) → all ≡ option_or xs ys
    → (if test then Some text else all) ≡ option_or (if test then Some text else xs) ys
both_by true text all xs ys rest = refl
both_by false text all xs ys rest = rest

pub first_of_both : (so : Refusal) (xs ys : List Place) → first_so so (xs ++ ys) ≡ option_or (first_so so xs) (first_so so ys)
unfolding first_so
first_of_both so [] ys = refl
first_of_both so (x ∷ xs) ys = both_by (is_so so x.1) x.0 (first_so so (xs ++ ys)) (first_so so xs) (first_so so ys) (first_of_both so xs ys)

in_item_by : (test : Bool) (f : List ℕ → List ℕ) (text : List ℕ) (all xs : Option (List ℕ)) → all ≡ option_map f xs
    → (if test then Some (f text) else all) ≡ option_map f (if test then Some text else xs)
in_item_by true f text all xs rest = refl
in_item_by false f text all xs rest = rest

-- the first place of an item
pub first_in_item : (so : Refusal) (name : List ℕ) (n : ℕ) (places : List Place)
    → first_so so (map (of_item name n) places) ≡ option_map (λ text. text ++ item_text name n) (first_so so places)
unfolding first_so
first_in_item so name n [] = refl
first_in_item so name n (place ∷ places) =
    in_item_by (is_so so place.1) (λ text. text ++ item_text name n) place.0 (first_so so (map (of_item name n) places)) (first_so so places)
    (first_in_item so name n places)

pub first_of_none : (so : Refusal) → first_so so [] ≡ None
unfolding first_so
first_of_none so = refl

-- the first place of the items from this one on
pub next_item : (so : Refusal) (kind : ItemKind) (n : ℕ) (values : List Value) (i : ℕ) (value : Value) → i < length values → value ≡ get_or values i value
    → first_so so (each_item_places kind n (items_view (drop i values)))
    ≡ option_or (option_map (λ text. text ++ item_text (item_name kind) n) (first_so so (item_places kind (view value))))
    (first_so so (each_item_places kind (n + 1) (items_view (drop (i + 1) values))))
next_item so kind n values i value below here =
    let later : List Place = each_item_places kind (n + 1) (items_view (drop (i + 1) values)) in
    ap (λ left. first_so so (each_item_places kind n (items_view left))) (next_is values i value below here)
    ∙ first_of_both so (map (of_item (item_name kind) n) (item_places kind (view value))) later
    ∙ ap (λ first. option_or first (first_so so later)) (first_in_item so (item_name kind) n (item_places kind (view value)))

-- and if no items are left
pub none_are_left : (so : Refusal) (kind : ItemKind) (n : ℕ) (values : List Value) (i : ℕ) → length values ≤ i
    → None ≡ first_so so (each_item_places kind n (items_view (drop i values)))
unfolding first_so
none_are_left so kind n values i over = sym (at_drop_all (λ left. first_so so (each_item_places kind n (items_view left))) values i over)

pub is_none : {X : Type 0} (found : Option X) → ((x : X) → found ≡ Some x → ⊥) → found ≡ None
is_none None other = refl
is_none (Some x) other = absurd (other x refl)

-- ---- lists and maps that are not empty

pub some_items : (values : List Value) → has_items (items_view values) ≡ not (length values == 0)
some_items [] = refl
some_items (v ∷ values) = ap not (sym (eqb-suc-zero (length values)))

pub some_members : (entries : List Entry) → has_members (members_view entries) ≡ not (length entries == 0)
some_members [] = refl
some_members (entry ∷ entries) = ap not (sym (eqb-suc-zero (length entries)))

-- ---- results and headers

pub seen_as : {X Y : Type 0} (view : X → Y) (r : Result X Refusal) (answer : Result Y Refusal) → Agrees view r answer → result_seen view r ≡ answer
seen_as view (Ok x) answer agrees = sym agrees
seen_as view (Err refusal) answer agrees = sym agrees.0

pub apart_from_nothing : (members : Members) → overlap members no_members ≡ false
apart_from_nothing no_members = refl
apart_from_nothing (member name value rest) = apart_from_nothing rest

abbrev encrypted_read : Result Members Refusal → Result Members Refusal → Option Refusal → Option Refusal → Option Refusal → Option Refusal → ReadEncrypted
encrypted_read p u a i c t = record { protected = p; unprotected = u; aad = a; iv = i; ciphertext = c; tag = t }

pub read_alike : {p p' u u' : Result Members Refusal} {a a' i i' c c' t t' : Option Refusal} → p ≡ p' → u ≡ u' → a ≡ a' → i ≡ i' → c ≡ c' → t ≡ t'
    → encrypted_read p u a i c t ≡ encrypted_read p' u' a' i' c' t'
read_alike hp hu ha hi hc ht = rw (hp, hu, ha, hi, hc, ht) refl
