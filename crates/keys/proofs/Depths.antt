-- The depth of the parts of a value.
use Rattle.std.proofs.Common.{◌≡◌, ◌≤◌, ◌<◌, ℕ, Bool, true, false, max, nat_le, refl, arith}
use Rattle.std.proofs.lemmas.Bool.{le-leb, lt-leb, leb-true, leb-false}
use Rattle.std.specs.Prelude.{◌&&◌}

by_first : (p q : Bool) (a b n : ℕ) → nat_le a n ≡ p → nat_le b n ≡ q → nat_le (max a b) n ≡ (p && q)
by_first true true a b n h k =
    let x : a ≤ n = leb-true a n h in
    let y : b ≤ n = leb-true b n k in
    le-leb (max a b) n (omega arith)
by_first true false a b n h k =
    let y : n < b = leb-false b n k in
    lt-leb (max a b) n (omega arith)
by_first false q a b n h k =
    let x : n < a = leb-false a n h in
    lt-leb (max a b) n (omega arith)

-- The greater of two numbers is at most n exactly if both numbers are.
pub nat_le-max : (a b n : ℕ) → nat_le (max a b) n ≡ (nat_le a n && nat_le b n)
nat_le-max a b n = by_first (nat_le a n) (nat_le b n) a b n refl refl
