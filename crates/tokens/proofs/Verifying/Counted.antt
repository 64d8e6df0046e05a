-- Signers that are counted.
use Rattle.std.proofs.Common.{◌≡◌, ℕ, ◌+◌, ◌-◌, ◌<◌, ◌≤◌, ◌==◌, max, List, [], ◌∷◌, length, map, take, drop, get_or, Bool, true, false, ◌&&◌, ◌||◌, cond, nat_le, nat_lt, Option, Some, None, refl, sym, ap, subst, ◌∙◌, arith, length-drop, if◌then◌else◌}
use Rattle.std.proofs.lemmas.Bool.{eqb-true, eqb-false, le-leb, leb-true, lt-leb, ltb-true, ltb-false}
use Rattle.std.proofs.lemmas.List.Sums.{count_by-le-length, count_by_more_no, count_by_more_yes, sum_by-cons, sum_by-take-drop}
use Rattle.std.specs.List.{count_by, list_all, list_any}
use Rattle.tokens.specs.Code.Deciding.{decided}

-- ---- how many elements pass a test

same_bool : (a b : Bool) → (a ≡ true → b ≡ true) → (b ≡ true → a ≡ true) → a ≡ b
same_bool true b there back = sym (there refl)
same_bool false true there back = back refl
same_bool false false there back = refl

module _ {X : Type 0} (p : X → Bool) where
  pub count_cons : (x : X) (xs : List X) → count_by p (x ∷ xs) ≡ cond (p x) 1 0 + count_by p xs
  count_cons x xs = sum_by-cons (λ y. cond (p y) 1 0) x xs

  cons_is : (test : Bool) (x : X) (xs : List X) → p x ≡ test → count_by p (x ∷ xs) ≡ cond test 1 0 + count_by p xs
  cons_is test x xs is = count_cons x xs ∙ ap (λ t. cond t 1 0 + count_by p xs) is

  -- Some element passes exactly if at least one does.
  pub any_is_one : (xs : List X) → list_any p xs ≡ nat_le 1 (count_by p xs)
  any_is_one [] = refl
  any_is_one (x ∷ xs) = by_test (p x) refl (any_is_one xs)
    where
      by_test : (test : Bool) → p x ≡ test → list_any p xs ≡ nat_le 1 (count_by p xs) → (test || list_any p xs) ≡ nat_le 1 (count_by p (x ∷ xs))
      by_test true is rest = let whole = cons_is true x xs is in sym (le-leb 1 (count_by p (x ∷ xs)) (omega arith))
      by_test false is rest = let whole = cons_is false x xs is in rest ∙ ap (nat_le 1) (omega arith)

  -- All pass exactly if as many do as there are.
  pub all_is_length : (xs : List X) → list_all p xs ≡ nat_le (length xs) (count_by p xs)
  all_is_length [] = refl
  all_is_length (x ∷ xs) = by_test (p x) refl (all_is_length xs)
    where
      by_test : (test : Bool) → p x ≡ test → list_all p xs ≡ nat_le (length xs) (count_by p xs)
          → (test && list_all p xs) ≡ nat_le (length (x ∷ xs)) (count_by p (x ∷ xs))
      by_test true is rest =
          let whole = cons_is true x xs is in
          same_bool _ _
          (λ all. let others = leb-true (length xs) (count_by p xs) (sym rest ∙ all) in le-leb (length (x ∷ xs)) (count_by p (x ∷ xs)) (omega arith))
          (λ many. let some = leb-true (length (x ∷ xs)) (count_by p (x ∷ xs)) many in rest ∙ le-leb (length xs) (count_by p xs) (omega arith))
      by_test false is rest =
          let whole = cons_is false x xs is in
          let most = count_by-le-length p xs in
          sym (lt-leb (length (x ∷ xs)) (count_by p (x ∷ xs)) (omega arith))

  -- one more element is counted
  count_more : (test : Bool) (xs : List X) (i : ℕ) (d : X) → i < length xs → p (get_or xs i d) ≡ test
      → count_by p (take (i + 1) xs) ≡ count_by p (take i xs) + cond test 1 0
  count_more true xs i d below is = count_by_more_yes p xs i d below is
  count_more false xs i d below is = let more = count_by_more_no p xs i d below is in omega arith

-- The number of those whose view passes.
pub count_map : {X Y : Type 0} (p : Y → Bool) (view : X → Y) (xs : List X) → count_by (λ x. p (view x)) xs ≡ count_by p (map view xs)
count_map p view [] = refl
count_map p view (x ∷ xs) =
    count_cons (λ x. p (view x)) x xs ∙ ap (λ n. cond (p (view x)) 1 0 + n) (count_map p view xs) ∙ sym (count_cons p (view x) (map view xs))

-- ---- a tally (src/verify/tally.rt)

-- What is decided says how many are wanted and left.
abbrev pub Decides : ℕ → ℕ → Option Bool → Type 0
Decides wanted left None = (0 < wanted) × (wanted ≤ left)
Decides wanted left (Some true) = wanted ≡ 0
Decides wanted left (Some false) = left < wanted

decides : (wanted left : ℕ) → Decides wanted left (decided wanted left)
decides wanted left = by_test (wanted == 0) refl (nat_lt left wanted) refl
  where
    by_test : (none : Bool) → (wanted == 0) ≡ none → (few : Bool) → nat_lt left wanted ≡ few
        → Decides wanted left (if none then Some true else (if few then Some false else None))
    by_test true none few is = eqb-true wanted 0 none
    by_test false none true is = ltb-true left wanted is
    by_test false none false is = let enough = ltb-false left wanted is in let some = eqb-false wanted 0 none in (omega arith, enough)

-- So many more have to pass, and so many are left, after those before i were asked.
pub record Counted {X : Type 0} (p : X → Bool) (least : ℕ) (xs : List X) (i wanted left : ℕ) : Type 0 where
  pub some : 0 < wanted
  pub counted : wanted + count_by p (take i xs) ≡ max least 1
  pub others : left + i ≡ length xs

abbrev pub enough : {X : Type 0} → (X → Bool) → ℕ → List X → Bool
enough p least xs = nat_le (max least 1) (count_by p xs)

module _ {X : Type 0} (p : X → Bool) (least : ℕ) (xs : List X) where
  pub count_starts : Counted p least xs 0 (max least 1) (length xs)
  count_starts = record { some = omega arith; counted = omega arith; others = omega arith }

  -- If none is left, they are too few.
  pub count_ends : (i wanted left : ℕ) → length xs ≤ i → Counted p least xs i wanted left → false ≡ enough p least xs
  count_ends i wanted left end so_far =
      let some = so_far.some in
      let counted = so_far.counted in
      let whole = sum_by-take-drop (λ x. cond (p x) 1 0) xs i in
      let rest = count_by-le-length p (drop i xs) in
      let none = length-drop i xs in
      sym (lt-leb (max least 1) (count_by p xs) (omega arith))

  -- The element at i is counted, which gives the tally `w` and `l`.
  module _ (i wanted left : ℕ) (test : Bool) (d : X) (w l : ℕ) (below : i < length xs) (so_far : Counted p least xs i wanted left)
      (is : p (get_or xs i d) ≡ test) (w_is : w ≡ wanted - cond test 1 0) (l_is : l ≡ left - 1) where
    -- If the tally decides nothing, one more was counted.
    pub count_goes_on : None ≡ decided w l → Counted p least xs (i + 1) w l
    count_goes_on unknown = by_test test (count_more p test xs i d below is) w_is (subst (Decides w l) (sym unknown) (decides w l))
      where
        by_test : (test : Bool) → count_by p (take (i + 1) xs) ≡ count_by p (take i xs) + cond test 1 0 → w ≡ wanted - cond test 1 0
            → (0 < w) × (w ≤ l) → Counted p least xs (i + 1) w l
        by_test true more w_is open_yet =
            let counted = so_far.counted in
            let others = so_far.others in
            record { some = open_yet.0; counted = omega arith; others = omega arith }
        by_test false more w_is open_yet =
            let counted = so_far.counted in
            let others = so_far.others in
            record { some = open_yet.0; counted = omega arith; others = omega arith }

    -- If the tally decides, it is right.
    pub count_decides : (answer : Bool) → Some answer ≡ decided w l → answer ≡ enough p least xs
    count_decides answer known = by_test test answer (count_more p test xs i d below is) w_is (subst (Decides w l) (sym known) (decides w l))
      where
        by_test : (test answer : Bool) → count_by p (take (i + 1) xs) ≡ count_by p (take i xs) + cond test 1 0 → w ≡ wanted - cond test 1 0
            → Decides w l (Some answer) → answer ≡ enough p least xs
        by_test true true more w_is done =
            let some = so_far.some in
            let counted = so_far.counted in
            let whole = sum_by-take-drop (λ x. cond (p x) 1 0) xs (i + 1) in
            sym (le-leb (max least 1) (count_by p xs) (omega arith))
        by_test false true more w_is done =
            let some = so_far.some in
            absurd (omega arith)
        by_test test false more w_is few =
            let counted = so_far.counted in
            let others = so_far.others in
            let whole = sum_by-take-drop (λ x. cond (p x) 1 0) xs (i + 1) in
            let rest = count_by-le-length p (drop (i + 1) xs) in
            let number = length-drop (i + 1) xs in
            sym (lt-leb (max least 1) (count_by p xs) (elim test as (λ t. count_by p (take (i + 1) xs) ≡ count_by p (take i xs) + cond t 1 0
            → w ≡ wanted - cond t 1 0 → count_by p xs < max least 1) [ true ↦ λ more w_is. omega arith | false ↦ λ more w_is. omega arith ] more w_is))
