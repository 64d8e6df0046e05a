-- Lists that are read element by element: the results of reading them, and facts that hold of each element.
use Rattle.std.proofs.Common.{◌≡◌, ℕ, suc, ◌+◌, ◌≤◌, List, [], ◌∷◌, length, map, Bool, true, Result, Ok, refl, sym, ap, ap₂, ◌∙◌, subst, arith}
use Rattle.std.proofs.lemmas.Bool.{and_from}
use Rattle.std.proofs.lemmas.List.Elements.{recursion_from_All}
use Rattle.std.proofs.lemmas.List.Sums.{AllPass-from_list_all}
use Rattle.std.specs.List.{AllByRecursion, list_all}
use Rattle.serde_json.specs.Data.{Data, Items, no_items, item, depth, items_depth}
use Rattle.octets.specs.declared.refusal.Refusal.{Refusal}
use Rattle.octets.specs.Outcomes.{◌>>=◌}
use Rattle.keys.specs.JsonTexts.{IsJson, AreJsonItems}
use Rattle.keys.specs.KeySets.{items_count}
use Rattle.objects.specs.Texts.{each, each_item}
use Rattle.octets.proofs.Lemmas.{steps, same_answer}

-- ---- facts that hold of each element

-- If all elements pass a test, each of them does.
pub all_passed : {X : Type 0} (test : X → Bool) (xs : List X) → list_all test xs ≡ true → AllByRecursion (λ x. test x ≡ true) xs
all_passed test xs h = recursion_from_All (λ x. test x ≡ true) xs (AllPass-from_list_all test xs h)

-- If P implies a test, and P holds of each element, all elements pass the test.
pub all_pass : {X : Type 0} (P : X → Type 0) (test : X → Bool) → ((x : X) → P x → test x ≡ true) → (xs : List X) → AllByRecursion P xs → list_all test xs ≡ true
all_pass P test one [] all = refl
all_pass P test one (x ∷ xs) all = and_from (test x) (list_all test xs) (one x all.0) (all_pass P test one xs all.1)

-- If P implies Q, and P holds of each element, Q holds of each.
pub all_then : {X : Type 0} (P Q : X → Type 0) → ((x : X) → P x → Q x) → (xs : List X) → AllByRecursion P xs → AllByRecursion Q xs
all_then P Q one [] all = tt
all_then P Q one (x ∷ xs) all = (one x all.0, all_then P Q one xs all.1)

-- If P and Q imply R, and both hold of each element, R holds of each.
pub all_both : {X : Type 0} {P Q R : X → Type 0} → ((x : X) → P x → Q x → R x) → (xs : List X) → AllByRecursion P xs → AllByRecursion Q xs → AllByRecursion R xs
all_both both [] p q = tt
all_both both (x ∷ xs) p q = (both x p.0 q.0, all_both both xs p.1 q.1)

-- If P of an element implies Q of its image, and P holds of each element, Q holds of each image.
pub all_images : {X Y : Type 0} {P : X → Type 0} (Q : Y → Type 0) (image : X → Y) → ((x : X) → P x → Q (image x)) → (xs : List X) → AllByRecursion P xs
    → AllByRecursion Q (map image xs)
all_images Q image holds [] p = tt
all_images Q image holds (x ∷ xs) p = (holds x p.0, all_images Q image holds xs p.1)

-- If P of an image implies a test of the element, and P holds of each image, all elements pass the test.
pub images_pass : {X Y : Type 0} (P : Y → Type 0) (image : X → Y) (test : X → Bool) → ((x : X) → P (image x) → test x ≡ true) → (xs : List X)
    → AllByRecursion P (map image xs) → list_all test xs ≡ true
images_pass P image test one [] all = refl
images_pass P image test one (x ∷ xs) all = and_from (test x) (list_all test xs) (one x all.0) (images_pass P image test one xs all.1)

-- There is a number that is at least f of each element.
pub bounded : {X : Type 0} (f : X → ℕ) (xs : List X) → (n : ℕ) × AllByRecursion (λ x. f x ≤ n) xs
bounded f [] = (0, tt)
bounded f (x ∷ xs) =
    let others = bounded f xs in
    (f x + others.0, (omega arith, all_then _ _ (λ y h. omega (arith, h)) xs others.1))

-- ---- the results of reading

-- If a list is read, its first element was read, and then the others.
pub first_and_others : {Y : Type 0} (first : Result Y Refusal) (others : Result (List Y) Refusal) (ys : List Y)
    → (first >>= λ y. others >>= λ rest. Ok (y ∷ rest)) ≡ Ok ys
    → (y : Y) × (rest : List Y) × (first ≡ Ok y) × (others ≡ Ok rest) × (y ∷ rest ≡ ys)
first_and_others first others ys h =
    let a = steps first (λ y. others >>= λ rest. Ok (y ∷ rest)) ys h in
    let b = steps others (λ rest. Ok (a.0 ∷ rest)) ys a.2 in
    (a.0, b.0, a.1, b.1, same_answer (a.0 ∷ b.0) ys b.2)

-- If reading an element preserves a value, reading a list preserves it for each.
pub each_keeps : {X Y Z : Type 0} (read : X → Result Y Refusal) (before : X → Z) (after : Y → Z) → ((x : X) (y : Y) → read x ≡ Ok y → after y ≡ before x)
    → (xs : List X) (ys : List Y) → each read xs ≡ Ok ys → map after ys ≡ map before xs
each_keeps read before after keeps [] ys h = ap (map after) (sym (same_answer [] ys h))
each_keeps read before after keeps (x ∷ xs) ys h =
    let a = first_and_others (read x) (each read xs) ys h in
    ap (map after) (sym a.4) ∙ ap₂ (λ z zs. z ∷ zs) (keeps x a.0 a.2) (each_keeps read before after keeps xs a.1 a.3)

-- If P of an element that is read implies Q, and P holds of each element, Q holds of each.
pub each_all : {X Y : Type 0} {P Q : X → Type 0} (read : X → Result Y Refusal) → ((x : X) (y : Y) → P x → read x ≡ Ok y → Q x)
    → (xs : List X) (ys : List Y) → each read xs ≡ Ok ys → AllByRecursion P xs → AllByRecursion Q xs
each_all read holds [] ys h all = tt
each_all read holds (x ∷ xs) ys h all =
    let a = first_and_others (read x) (each read xs) ys h in
    (holds x a.0 all.0 a.2, each_all read holds xs a.1 a.3 all.1)

-- If the image of each element with P is read the same as the element, the images of a list are read the same as the list.
pub each_alike : {X Y Z : Type 0} {P : X → Type 0} (read : X → Result Z Refusal) (other : Y → Result Z Refusal) (given : X → Y)
    → ((x : X) → P x → other (given x) ≡ read x)
    → (xs : List X) → AllByRecursion P xs → each other (map given xs) ≡ each read xs
each_alike read other given alike [] all = refl
each_alike read other given alike (x ∷ xs) all = rw (alike x all.0, each_alike read other given alike xs all.1) refl

-- If each element reads as itself, so does the list.
pub each_itself : {X : Type 0} (xs : List X) → each (λ x. Ok x) xs ≡ Ok xs
each_itself [] = refl
each_itself (x ∷ xs) = rw (each_itself xs) refl

-- If Q holds of the result of reading an element with P, it holds of each result.
pub all_read : {X Y : Type 0} (P : X → Type 0) (Q : Y → Type 0) (read : X → Result Y Refusal) → ((x : X) (y : Y) → P x → read x ≡ Ok y → Q y)
    → (xs : List X) (ys : List Y) → AllByRecursion P xs → each read xs ≡ Ok ys → AllByRecursion Q ys
all_read P Q read one [] ys all h = subst (AllByRecursion Q) (same_answer [] ys h) tt
all_read P Q read one (x ∷ xs) ys all h =
    let a = first_and_others (read x) (each read xs) ys h in
    subst (AllByRecursion Q) a.4 (one x a.0 all.0 a.2, all_read P Q read one xs a.1 all.1 a.3)

-- If an element can be read again from its result, a list can be read again from its results.
pub read_again : {X Y Z : Type 0} (read : X → Result Y Refusal) (keep : Y → Z) (again : Z → Result Y Refusal)
    → ((x : X) (y : Y) → read x ≡ Ok y → again (keep y) ≡ Ok y)
    → (xs : List X) (ys : List Y) → each read xs ≡ Ok ys → each again (map keep ys) ≡ Ok ys
read_again read keep again one [] ys h = subst (λ l. each again (map keep l) ≡ Ok l) (same_answer [] ys h) refl
read_again read keep again one (x ∷ xs) ys h =
    let a = first_and_others (read x) (each read xs) ys h in
    subst (λ l. each again (map keep l) ≡ Ok l) a.4 (rw (one x a.0 a.2, read_again read keep again one xs a.1 a.3) refl)

-- A list of one element is read as a list of one.
pub one_read : {X Y : Type 0} (read : X → Result Y Refusal) (x : X) (ys : List Y) → each read (x ∷ []) ≡ Ok ys → (y : Y) × (read x ≡ Ok y) × (ys ≡ y ∷ [])
one_read read x ys h =
    let a = first_and_others (read x) (Ok []) ys h in
    (a.0, a.2, sym a.4 ∙ ap (λ rest. a.0 ∷ rest) (sym (same_answer [] a.1 a.3)))

-- If the image of a list has one element, so does the list.
pub one_kept : {X Y : Type 0} (keep : X → Y) (xs : List X) (y : Y) → map keep xs ≡ y ∷ [] → (x : X) × (xs ≡ x ∷ []) × (keep x ≡ y)
one_kept keep [] y h = cc h
one_kept keep (x ∷ []) y h = (x, refl, cc h)
one_kept keep (x ∷ (other ∷ rest)) y h = cc h

-- ---- the items of an array

-- There are as many results as items.
pub as_many_items : {Y : Type 0} (read : Data → Result Y Refusal) (items : Items) (ys : List Y) → each_item read items ≡ Ok ys → length ys ≡ items_count items
as_many_items read no_items ys h = ap length (sym (same_answer [] ys h))
as_many_items read (item d rest) ys h =
    let a = first_and_others (read d) (each_item read rest) ys h in
    ap length (sym a.4) ∙ ap suc (as_many_items read rest a.1 a.3)

-- If Q holds of the result of reading any JSON value at most n deep, it holds of each result.
pub all_items_read : {Y : Type 0} (Q : Y → Type 0) (n : ℕ) (read : Data → Result Y Refusal)
    → ((d : Data) (y : Y) → IsJson d → depth d ≤ n → read d ≡ Ok y → Q y)
    → (items : Items) (ys : List Y) → AreJsonItems items → items_depth items ≤ n → each_item read items ≡ Ok ys → AllByRecursion Q ys
all_items_read Q n read one no_items ys json shallow h = subst (AllByRecursion Q) (same_answer [] ys h) tt
all_items_read Q n read one (item d rest) ys json shallow h =
    let a = first_and_others (read d) (each_item read rest) ys h in
    subst (AllByRecursion Q) a.4 (one d a.0 json.0 (omega (arith, shallow)) a.2, all_items_read Q n read one rest a.1 json.1 (omega (arith, shallow)) a.3)
