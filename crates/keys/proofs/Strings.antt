-- The texts of items, one after another.
use Rattle.std.proofs.Common.{◌≡◌, ℕ, List, [], ◌∷◌, ◌++◌, Bool, map, String, string_bytes, Global, Bor, Option, Some, None, option_map, option_and_then, refl, sym, ap, ◌∙◌, append_assoc}
use Rattle.std.proofs.lemmas.List.{map-append}
use Rattle.std.specs.List.{list_any}
use Rattle.std.specs.Prelude.{◌||◌}
use Rattle.std.specs.Str.{bytes_eq}
use Rattle.serde_json.specs.Find.{as_str}
use Rattle.serde_json.specs.View.{view, items_view}
use Rattle.serde_json.specs.declared.value.Value.{Value}
use Rattle.keys.specs.Members.{strings_of}

-- the texts so far, followed by those of the values that are left
abbrev pub texts_with : List (String Global) → List Value → Option (List (List ℕ))
texts_with done left = option_map (λ texts. map string_bytes done ++ texts) (strings_of (items_view left))

unchanged : (o : Option (List (List ℕ))) → option_map (λ texts. [] ++ texts) o ≡ o
unchanged None = refl
unchanged (Some texts) = refl

pub texts_with-none : (left : List Value) → strings_of (items_view left) ≡ texts_with [] left
texts_with-none left = sym (unchanged (strings_of (items_view left)))

one_more : (done : List (List ℕ)) (text : List ℕ) (o : Option (List (List ℕ)))
    → option_map (λ texts. done ++ texts) (option_map (λ texts. text ∷ texts) o) ≡ option_map (λ texts. (done ++ text ∷ []) ++ texts) o
one_more done text None = refl
one_more done text (Some texts) = ap Some (sym (append_assoc done (text ∷ []) texts))

pub texts_with-more : (done : List (String Global)) (text : String Global) (v : Value) (left : List Value) → as_str (view v) ≡ Some (string_bytes text)
    → texts_with done (v ∷ left) ≡ texts_with (done ++ text ∷ []) left
texts_with-more done text v left is =
    ap (λ o. option_map (λ texts. map string_bytes done ++ texts) (option_and_then (λ t. option_map (λ texts. t ∷ texts) (strings_of (items_view left))) o)) is
    ∙ one_more (map string_bytes done) (string_bytes text) (strings_of (items_view left))
    ∙ ap (λ front. option_map (λ texts. front ++ texts) (strings_of (items_view left))) (sym (map-append string_bytes done (text ∷ [])))

pub texts_with-other : (done : List (String Global)) (v : Value) (left : List Value) → as_str (view v) ≡ None → texts_with done (v ∷ left) ≡ None
texts_with-other done v left is =
    ap (λ o. option_map (λ texts. map string_bytes done ++ texts) (option_and_then (λ t. option_map (λ texts. t ∷ texts) (strings_of (items_view left))) o)) is

-- Some text of the list passes a test exactly if some string does.
pub any_text : (asked : List ℕ → Bool) (texts : List (String Global))
    → list_any asked (map string_bytes texts) ≡ list_any (λ text. asked (string_bytes text)) texts
any_text asked [] = refl
any_text asked (text ∷ texts) = ap (λ rest. asked (string_bytes text) || rest) (any_text asked texts)

pub any_name : (text : List ℕ) (names : List (Bor (List ℕ)))
    → list_any (λ name. bytes_eq name text) (map (λ name. name.now) names) ≡ list_any (λ name. bytes_eq name.now text) names
any_name text [] = refl
any_name text (name ∷ names) = ap (λ rest. bytes_eq name.now text || rest) (any_name text names)
