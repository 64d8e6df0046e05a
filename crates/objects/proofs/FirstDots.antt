-- Finding dots with lanes, and octets at the front of a text that are not dots.
use Rattle.std.proofs.Common.{◌≡◌, ℕ, zero, suc, ◌+◌, ◌-◌, ◌*◌, ◌≤◌, nat_eq, nat_lt, Bool, true, false, not, cond, List, [], ◌∷◌, ◌++◌, map, length, take, drop, position, Some, None, option_map, refl, sym, ap, ◌∙◌, subst, arith, length-drop}
use Rattle.std.proofs.lemmas.Bool.{ltb-true, ltb-false, lt-ltb, le-ltb}
use Rattle.std.proofs.lemmas.List.{take-append-drop, take_all}
use Rattle.std.proofs.lemmas.List.Sums.{prefix_len-le-length}
use Rattle.std.specs.List.{prefix_len, position_or_len}
use lib.Lanes.{mask_l}

-- A mask has a bit that is set exactly if some lane passes.
pub some_set : {X : Type 0} (p : X → Bool) (xs : List X) → not (nat_eq (mask_l (map p xs)) 0) ≡ nat_lt (position_or_len p xs) (length xs)
some_set p [] = refl
some_set p (x ∷ xs) = by_first (p x) (mask_l (map p xs)) (position_or_len p xs) (length xs) (some_set p xs)
  where
    by_first : (b : Bool) (mask at n : ℕ) → not (nat_eq mask 0) ≡ nat_lt at n
        → not (nat_eq (cond b 1 0 + 2 * mask) 0) ≡ nat_lt (cond (not b) (1 + at) 0) (suc n)
    by_first true mask at n rest = grind arith
    by_first false mask at n rest = grind (arith, rest)

-- The elements that pass at the front of a list also pass at the front of a longer list.
front_passes : {X : Type 0} (p : X → Bool) (xs ys : List X) → prefix_len p xs ≤ prefix_len p (xs ++ ys)
front_passes p [] ys = omega arith
front_passes p (x ∷ xs) ys = by_first (p x) (front_passes p xs ys)
  where
    by_first : (b : Bool) → prefix_len p xs ≤ prefix_len p (xs ++ ys) → cond b (1 + prefix_len p xs) 0 ≤ cond b (1 + prefix_len p (xs ++ ys)) 0
    by_first true le = omega (arith, le)
    by_first false le = omega arith

-- If the first n elements pass, all that pass at the front are these and those that pass at the front of the rest.
pub passed_on : {X : Type 0} (p : X → Bool) (xs : List X) (n : ℕ) → n ≤ prefix_len p xs → prefix_len p xs ≡ n + prefix_len p (drop n xs)
passed_on p xs zero le = omega arith
passed_on p [] (suc n) le = absurd (omega (arith, le))
passed_on p (x ∷ xs) (suc n) le = by_first (p x) (passed_on p xs n) le
  where
    by_first : (b : Bool) → (n ≤ prefix_len p xs → prefix_len p xs ≡ n + prefix_len p (drop n xs)) → suc n ≤ cond b (1 + prefix_len p xs) 0
        → cond b (1 + prefix_len p xs) 0 ≡ suc n + prefix_len p (drop n xs)
    by_first true rest le = let later = rest (omega (arith, le)) in omega (arith, later)
    by_first false rest le = absurd (omega (arith, le))

-- If the next k elements also pass, the first n + k do.
pub block_passed : {X : Type 0} (p : X → Bool) (xs : List X) (n k : ℕ) → n ≤ prefix_len p xs → k ≤ prefix_len p (take k (drop n xs)) → n + k ≤ prefix_len p xs
block_passed p xs n k le block =
    let more : prefix_len p (take k (drop n xs)) ≤ prefix_len p (drop n xs) =
    subst (λ l. prefix_len p (take k (drop n xs)) ≤ prefix_len p l) (take-append-drop k (drop n xs))
    (front_passes p (take k (drop n xs)) (drop k (drop n xs))) in
    omega (arith, passed_on p xs n le, block, more)

-- If none of the first n elements passes, the first one that passes is the first one of the rest.
pub found_behind : {X : Type 0} (p : X → Bool) (xs : List X) (n : ℕ) → n ≤ position_or_len p xs
    → position p xs ≡ option_map (λ i. n + i) (position p (drop n xs))
found_behind p xs n le =
    let at : position_or_len p xs ≡ n + position_or_len p (drop n xs) = passed_on (λ x. not (p x)) xs n le in
    let most : position_or_len p xs ≤ length xs = prefix_len-le-length (λ x. not (p x)) xs in
    by_test (nat_lt (position_or_len p (drop n xs)) (length (drop n xs))) refl at (length-drop n xs) (omega (arith, le, most))
  where
    by_test : (b : Bool) → nat_lt (position_or_len p (drop n xs)) (length (drop n xs)) ≡ b → position_or_len p xs ≡ n + position_or_len p (drop n xs)
        → length (drop n xs) ≡ length xs - n → n ≤ length xs
        → cond (nat_lt (position_or_len p xs) (length xs)) (Some (position_or_len p xs)) None
        ≡ option_map (λ i. n + i) (cond b (Some (position_or_len p (drop n xs))) None)
    by_test true is at long most =
        let less = ltb-true _ _ is in
        rw (lt-ltb (position_or_len p xs) (length xs) (omega (arith, at, long, most, less)), at) refl
    by_test false is at long most =
        let more = ltb-false _ _ is in
        rw (le-ltb (position_or_len p xs) (length xs) (omega (arith, at, long, most, more))) refl

-- The rest may also be written as a part of the list.
pub found_in_rest : {X : Type 0} (p : X → Bool) (xs : List X) (n : ℕ) → n ≤ position_or_len p xs
    → position p xs ≡ option_map (λ i. n + i) (position p (take (length xs - n) (drop n xs)))
found_in_rest p xs n le =
    found_behind p xs n le ∙ ap (λ rest. option_map (λ i. n + i) (position p rest))
    (sym (take_all (length xs - n) (drop n xs) (omega (arith, length-drop n xs))))

-- The first n elements are within the list.
pub known_within : {X : Type 0} (p : X → Bool) (xs : List X) (n : ℕ) → n ≤ position_or_len p xs → n ≤ length xs
known_within p xs n le = omega (arith, le, prefix_len-le-length (λ x. not (p x)) xs)
