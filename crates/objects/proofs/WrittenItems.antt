-- Objects that are written one after another in a list.
use Rattle.std.proofs.Common.{◌≡◌, ℕ, ◌+◌, ◌<◌, List, [], ◌∷◌, ◌++◌, length, map, take, get_or, codes, refl, sym, ap, ◌∙◌}
use Rattle.std.proofs.lemmas.List.{map_more, length-map}
use Rattle.objects.specs.Code.Writing.{Written, opened, closed, separated, with_items}

-- One more object is written after the others.
items_more : {X : Type 0} (with_one : X → Written → Written) (xs : List X) (x : X) (w : Written)
    → with_items with_one (xs ++ x ∷ []) w ≡ closed (codes "}") (with_one x (opened (codes "{") (separated (with_items with_one xs w))))
items_more with_one [] x w = refl
items_more with_one (y ∷ xs) x w = items_more with_one xs x _

pub one_more_item : {A X : Type 0} (with_one : X → Written → Written) (seen : A → X) (xs : List A) (i : ℕ) (x : A) (start w : Written)
    → w ≡ with_items with_one (map seen (take i xs)) start → i < length xs → x ≡ get_or xs i x
    → closed (codes "}") (with_one (seen x) (opened (codes "{") (separated w))) ≡ with_items with_one (map seen (take (i + 1) xs)) start
one_more_item with_one seen xs i x start w so_far lt at =
    let front = map seen (take i xs) in
    ap (λ w. closed (codes "}") (with_one (seen x) (opened (codes "{") (separated w)))) so_far
    ∙ sym (items_more with_one front (seen x) start)
    ∙ ap (λ y. with_items with_one (front ++ seen y ∷ []) start) at ∙ ap (λ l. with_items with_one l start) (sym (map_more seen xs i x lt))

-- The view of a view is one view.
pub map_map : {A B C : Type 0} (g : B → C) (f : A → B) (xs : List A) → map g (map f xs) ≡ map (λ x. g (f x)) xs
map_map g f [] = refl
map_map g f (x ∷ xs) = ap (λ rest. g (f x) ∷ rest) (map_map g f xs)

-- rules for a view of each element of a list
pub ruleset seen = (map_map, length-map)
