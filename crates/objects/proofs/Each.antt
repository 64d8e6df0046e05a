-- Lists whose elements are read one after another, and lists that are views of others.
use Rattle.std.proofs.Common.{◌≡◌, ℕ, suc, List, [], ◌∷◌, ◌++◌, length, map, Result, Ok, Err, refl, sym, ap, ◌∙◌, append_assoc, arith}
use Rattle.std.proofs.lemmas.List.{append-nil, length-map, map-append}
use Rattle.std.proofs.lemmas.List.Folds.{list_all-map}
use Rattle.octets.specs.declared.refusal.Refusal.{Refusal}
use Rattle.octets.specs.Outcomes.{◌>>=◌}
use Rattle.objects.specs.Texts.{each}

-- the results so far, followed by those of reading the rest
abbrev pub with_done : {X Y : Type 0} → (X → Result Y Refusal) → List Y → List X → Result (List Y) Refusal
with_done read done rest = each read rest >>= λ others. Ok (done ++ others)

pub with_none_done : {X Y : Type 0} (read : X → Result Y Refusal) (rest : List X) → each read rest ≡ with_done read [] rest
with_none_done read rest = by_answer (each read rest)
  where
    by_answer : {Z : Type 0} (r : Result (List Z) Refusal) → r ≡ (r >>= λ others. Ok ([] ++ others))
    by_answer (Ok others) = refl
    by_answer (Err e) = refl

pub with_one_more : {X Y : Type 0} (read : X → Result Y Refusal) (done : List Y) (x : X) (rest : List X) (y : Y)
    → read x ≡ Ok y → with_done read done (x ∷ rest) ≡ with_done read (done ++ y ∷ []) rest
with_one_more read done x rest y e = rw e (by_answer done y (each read rest))
  where
    by_answer : {Z : Type 0} (done : List Z) (z : Z) (others : Result (List Z) Refusal)
        → ((others >>= λ o. Ok (z ∷ o)) >>= λ o. Ok (done ++ o)) ≡ (others >>= λ o. Ok ((done ++ z ∷ []) ++ o))
    by_answer done z (Ok o) = ap Ok (sym (append_assoc done (z ∷ []) o))
    by_answer done z (Err e) = refl

pub with_one_refused : {X Y : Type 0} (read : X → Result Y Refusal) (done : List Y) (x : X) (rest : List X) (e : Refusal)
    → read x ≡ Err e → with_done read done (x ∷ rest) ≡ Err e
with_one_refused read done x rest e is = rw is refl

-- One more element is read, in lists that are views of others.
pub one_more : {A B X Y : Type 0} (read : X → Result Y Refusal) (given : A → X) (made : B → Y) (all : Result (List Y) Refusal) (done all_done : List B) (a : A)
    (left rest : List A) (b : B)
    → all ≡ with_done read (map made done) (map given left) → left ≡ a ∷ rest → read (given a) ≡ Ok (made b) → all_done ≡ done ++ b ∷ []
    → all ≡ with_done read (map made all_done) (map given rest)
one_more read given made all done all_done a left rest b so_far is reads more =
    so_far ∙ ap (λ l. with_done read (map made done) (map given l)) is ∙ with_one_more read (map made done) (given a) (map given rest) (made b) reads
    ∙ ap (λ d. with_done read d (map given rest)) (sym (map-append made done (b ∷ [])) ∙ ap (map made) (sym more))

-- There are as many results as elements.
pub as_many : {X Y : Type 0} (read : X → Result Y Refusal) (xs : List X) (ys : List Y) → each read xs ≡ Ok ys → length ys ≡ length xs
as_many read [] ys h = none ys h
  where
    none : {Z : Type 0} (zs : List Z) → (let r : Result (List Z) Refusal = Ok [] in r) ≡ Ok zs → length zs ≡ 0
    none zs h = let empty : zs ≡ [] = cc h in ap length empty
as_many read (x ∷ xs) ys h = many_by (read x) (each read xs) h (as_many read xs)
  where
    many_by : {Z : Type 0} {n : ℕ} {zs : List Z} (first : Result Z Refusal) (others : Result (List Z) Refusal)
        → (first >>= λ f. others >>= λ o. Ok (f ∷ o)) ≡ Ok zs → ((o : List Z) → others ≡ Ok o → length o ≡ n) → length zs ≡ suc n
    many_by {zs = zs} (Ok f) (Ok o) h later =
        let made : zs ≡ f ∷ o = cc h in
        ap length made ∙ ap suc (later o refl)
    many_by (Ok f) (Err r) h later = cc h
    many_by (Err r) others h later = cc h

-- For views of lists, too, there are as many results as elements.
pub as_many_views : {A B X Y : Type 0} (read : X → Result Y Refusal) (given : A → X) (made : B → Y) (xs : List A) (ys : List B)
    → each read (map given xs) ≡ Ok (map made ys) → length ys ≡ length xs
as_many_views read given made xs ys h = sym (length-map ys made) ∙ as_many read (map given xs) (map made ys) h ∙ length-map xs given

-- If no element is left, there are as many results as elements.
pub as_many_done : {A B X Y : Type 0} (read : X → Result Y Refusal) (given : A → X) (made : B → Y) (xs left : List A) (ys : List B)
    → each read (map given xs) ≡ with_done read (map made ys) (map given left) → length left ≡ 0 → length ys ≡ length xs
as_many_done read given made xs [] ys so_far none = as_many_views read given made xs ys (so_far ∙ ap Ok (append-nil (map made ys)))
as_many_done read given made xs (a ∷ left) ys so_far none = absurd (omega (arith, none))

-- rules for a loop that reads one element after another
pub ruleset reading = (with_none_done, one_more, with_one_refused, as_many_done)

-- rules for a test of each element, seen by a view
pub ruleset views = (list_all-map, length-map)
