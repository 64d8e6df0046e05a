-- The pairs of recipients and keys: how many there are, and their iterations.
use Rattle.std.proofs.Common.{◌≡◌, ℕ, ◌+◌, ◌*◌, ◌≤◌, ◌||◌, min, Bool, true, nat_eq, nat_le, nat_lt, List, [], ◌∷◌, ◌++◌, length, map, Option, Some, None, refl, sym, ap, ◌∙◌, arith}
use Rattle.std.proofs.Math.Nat.{min-le_right}
use Rattle.std.proofs.lemmas.Bool.{and_parts, and_from, leb-true, le-leb}
use Rattle.std.proofs.lemmas.Bool.Decides.{nat_tests}
use Rattle.std.proofs.lemmas.Grind.{common_steps}
use Rattle.std.proofs.lemmas.List.{length-map}
use Rattle.std.proofs.lemmas.List.Folds.{list_all-append}
use Rattle.std.specs.List.{filter, list_all, list_any}
use Rattle.keys.specs.Keys.{OctetKey}
use Rattle.keys.specs.Limits.{limits}
use Rattle.objects.specs.Jwe.{Recipient}
use Rattle.tokens.specs.Algorithms.{Algorithms}
use Rattle.tokens.specs.Decrypting.{Pair, with_iterations, is_candidate, pairs_with, pairs_by, pairs_of, all_pairs, has_pairs, iterations_by, iterations_of, all_iterations, are_within}

-- ---- how many there are

-- As many elements pass a test by a view as there are views that pass it.
seen : {X Y : Type 0} (test : X → Bool) (view : Y → X) (ys : List Y) → length (filter (λ y. test (view y)) ys) ≡ length (filter test (map view ys))
seen test view [] = refl
seen test view (y ∷ ys) = grind (arith, nat_tests, seen test view ys)

-- A recipient has a pair for each key that is a candidate.
pub candidates_are : {Y : Type 0} (r : Recipient) (a : Algorithms) (view : Y → OctetKey) (keys : List Y)
    → length (filter (λ key. is_candidate a (view key)) keys) ≡ length (pairs_with r a (map view keys))
candidates_are r a view keys = seen (is_candidate a) view keys ∙ sym (length-map (filter (is_candidate a) (map view keys)) _)

-- Two lists have a pair if either has one.
either_has : (xs ys : List Pair) → (nat_lt 0 (length xs) || has_pairs ys) ≡ has_pairs (xs ++ ys)
either_has [] ys = refl
either_has (x ∷ xs) ys = grind (arith, nat_tests)

-- There is a pair if some recipient has one.
pub some_has : {Y : Type 0} (keys : List OctetKey) (view : Y → Recipient) (rs : List Y)
    → list_any (λ r. nat_lt 0 (length (pairs_of limits.management keys (view r)))) rs ≡ has_pairs (all_pairs limits.management keys (map view rs))
some_has keys view [] = refl
some_has keys view (r ∷ rs) =
    let here = pairs_of limits.management keys (view r) in
    ap (λ rest. nat_lt 0 (length here) || rest) (some_has keys view rs) ∙ either_has here (all_pairs limits.management keys (map view rs))

-- ---- the iterations of one recipient's pairs

-- No pair needs more iterations than are read.
abbrev each_few : List Pair → Bool
each_few pairs = list_all (λ pair. nat_le (iterations_of pair) limits.greatest_p2c_read) pairs

-- the pairs of a recipient with keys that are candidates
abbrev with : Recipient → Algorithms → List OctetKey → List Pair
with r a keys = map (λ key. record { recipient = r; algorithms = a; key = key }) keys

-- The first pair tells whether any needs too many.
few_with : (r : Recipient) (a : Algorithms) (keys : List OctetKey)
    → each_few (with r a keys) ≡ (nat_eq (length (with r a keys)) 0 || nat_le (iterations_by r.management) limits.greatest_p2c_read)
few_with r a [] = refl
few_with r a (key ∷ keys) = grind (arith, nat_tests, few_with r a keys)

-- Each pair adds the same.
sum_with : (r : Recipient) (a : Algorithms) (keys : List OctetKey) → all_iterations (with r a keys) ≡ iterations_by r.management * length (with r a keys)
sum_with r a [] = omega arith
sum_with r a (key ∷ keys) = omega (arith, sum_with r a keys)

-- The pairs of a recipient need few iterations each if there is none or the recipient needs few.
pub few_by : (keys : List OctetKey) (r : Recipient) (o : Option Algorithms)
    → each_few (pairs_by keys r o) ≡ (nat_eq (length (pairs_by keys r o)) 0 || nat_le (iterations_by r.management) limits.greatest_p2c_read)
few_by keys r None = refl
few_by keys r (Some a) = few_with r a (filter (is_candidate a) keys)

-- Together they need as many as one does, times their number.
pub sum_by : (keys : List OctetKey) (r : Recipient) (o : Option Algorithms)
    → all_iterations (pairs_by keys r o) ≡ iterations_by r.management * length (pairs_by keys r o)
sum_by keys r None = omega arith
sum_by keys r (Some a) = sum_with r a (filter (is_candidate a) keys)

-- the iterations of one recipient's pairs, and tests of them
pub ruleset same_iterations = (few_by, sum_by, nat_tests)

-- ---- the iterations of two lists

-- The sums of two lists are added.
pub sum-append : (xs ys : List Pair) → all_iterations (xs ++ ys) ≡ all_iterations xs + all_iterations ys
sum-append [] ys = omega arith
sum-append (x ∷ xs) ys = omega (arith, sum-append xs ys)

-- the iterations of one recipient's pairs and of the others that are left, and tests of them
pub ruleset added_iterations = (list_all-append, sum-append, nat_tests, common_steps)

-- ---- fewer iterations than the limit

-- What is within fewer iterations is within the limits.
pub fewer_are_within : (most : ℕ) (pairs : List Pair) → are_within (with_iterations most limits) pairs ≡ true → are_within limits pairs ≡ true
fewer_are_within most pairs h =
    let parts = and_parts (each_few pairs) (nat_le (all_iterations pairs) (min most limits.p2c_sum)) h in
    let sum : all_iterations pairs ≤ min most limits.p2c_sum = leb-true (all_iterations pairs) (min most limits.p2c_sum) parts.1 in
    and_from _ _ parts.0 (le-leb (all_iterations pairs) limits.p2c_sum (omega (arith, sum, min-le_right most limits.p2c_sum)))
