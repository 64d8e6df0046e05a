-- Products of numbers whose digits in base 16 are 0 or 1: up to fifteen ones meet in a column, and no carry reaches the next digit.
use Rattle.std.proofs.Common.{◌≡◌, ℕ, zero, suc, ◌+◌, ◌*◌, ◌/◌, ◌%◌, ◌^◌, ◌<◌, ◌≤◌, bit_and, bit_xor, refl, sym, ap, ap₂, subst, ◌∙◌, arith, zero-mul, one-mul, add-zero}
use Rattle.std.specs.Int.Bits.{xor_add_and}
use Rattle.std.proofs.Math.Nat.{mul_assoc, mul_comm, add-mul}
use Rattle.std.proofs.lemmas.Nat.{shr_split, xor_mod, xor_block, and_mask, and_block, and_le_r}
use Rattle.modes.proofs.Rows.{rows, rows_zero, rows_digit}

-- The m digits of s are at most n, and those of t are their last bits.
pub data Alike (n : ℕ) : ℕ → ℕ → ℕ → Type 0 where
  none : (s t : ℕ) → s ≡ 0 → t ≡ 0 → Alike n zero s t
  more : (m s t p q d : ℕ) → Alike n m p q → d ≤ n → s ≡ p * 16 + d → t ≡ q * 16 + d % 2 → Alike n (suc m) s t

zeros : (n m s t : ℕ) → s ≡ 0 → t ≡ 0 → Alike n m s t
zeros n zero s t e f = none s t e f
zeros n (suc m) s t e f = more m s t 0 0 0 (zeros n m 0 0 refl refl) (omega arith) e f

-- ---- more digits

longer : (n m s t : ℕ) → Alike n m s t → Alike n (suc m) s t
longer n zero s t (none _ _ e f) = zeros n 1 s t e f
longer n (suc m) s t (more _ _ _ p q d a l e f) = more (suc m) s t p q d (longer n m p q a) l e f

further : (m j : ℕ) → suc (m + j) ≡ m + suc j
further m j = omega arith

much_longer : (n m s t j : ℕ) → Alike n m s t → Alike n (m + j) s t
much_longer n m s t zero a = subst (λ k. Alike n k s t) (sym (add-zero m)) a
much_longer n m s t (suc j) a = subst (λ k. Alike n k s t) (further m j) (longer n (m + j) s t (much_longer n m s t j a))

pub raised : (n m s t : ℕ) → Alike n m s t → Alike n (suc m) (s * 16) (t * 16)
raised n m s t a = more m (s * 16) (t * 16) s t 0 a (omega arith) (sym (add-zero (s * 16))) (sym (add-zero (t * 16)))

-- ---- sums and products

parity : (a b : ℕ) → bit_xor (a % 2) (b % 2) ≡ (a + b) % 2
parity a b = omega (arith, xor_mod a b 1, xor_add_and a b)

added : (n m a b c d : ℕ) → Alike n m a b → Alike 1 m c d → Alike (suc n) m (a + c) (bit_xor b d)
added n zero a b c d (none _ _ e f) (none _ _ g h) = none (a + c) (bit_xor b d) (omega (arith, e, g)) (ap₂ bit_xor f h)
added n (suc m) a b c d (more _ _ _ p q x u l e f) (more _ _ _ r s y v k g h) =
    more m (a + c) (bit_xor b d) (p + r) (bit_xor q s) (x + y) (added n m p q r s u v) (omega (arith, l, k)) (omega (arith, e, g))
    (ap₂ bit_xor f h ∙ xor_block 4 q s (x % 2) (y % 2) (omega arith) (omega arith) ∙ ap (λ z. bit_xor q s * 16 + z) (parity x y))

times_digit : (d m v : ℕ) → d ≤ 1 → Alike 1 m v v → Alike 1 m (d * v) (d * v)
times_digit zero m v l a = zeros 1 m (0 * v) (0 * v) (zero-mul v) (zero-mul v)
times_digit (suc zero) m v l a = subst (λ w. Alike 1 m w w) (sym (one-mul v)) a
times_digit (suc (suc d)) m v l a = absurd (omega (arith, l))

by_digit : (p d v : ℕ) → p * v * 16 + d * v ≡ (p * 16 + d) * v
by_digit p d v =
    ap (λ x. x + d * v) (mul_assoc p v 16 ∙ ap (λ x. p * x) (mul_comm v 16) ∙ sym (mul_assoc p 16 v))
    ∙ sym (add-mul (p * 16) d v)

-- Both products, if the digits of u and v are 0 or 1.
pub alike : (n m u v : ℕ) → u < 2 ^ 128 → Alike 1 n u u → Alike 1 m v v → Alike n (m + n) (u * v) (rows u v)
alike zero m u v h (none _ _ e f) b = zeros 0 (m + 0) (u * v) (rows u v) (ap (λ x. x * v) e ∙ zero-mul v) (ap (λ x. rows x v) e ∙ rows_zero v)
alike (suc n) m u v h (more _ _ _ p q d a l e f) b =
    let same : q ≡ p = omega (arith, l, e, f) in
    let before = alike n m p v (omega (arith, h, e)) (subst (λ q. Alike 1 n p q) same a) b in
    let sum = added n (suc (m + n)) (p * v * 16) (rows p v * 16) (d * v) (d * v) (raised n (m + n) (p * v) (rows p v) before)
    (times_digit d (suc (m + n)) v l (longer 1 (m + n) v v (much_longer 1 m v v n b))) in
    subst (λ k. Alike (suc n) k (u * v) (rows u v)) (further m n)
    (subst (λ s. Alike (suc n) (suc (m + n)) s (rows u v)) (by_digit p d v ∙ ap (λ x. x * v) (sym e))
    (subst (Alike (suc n) (suc (m + n)) (p * v * 16 + d * v)) (sym (ap (λ x. rows x v) e ∙ rows_digit p d v (omega (arith, h, e)) l)) sum))

-- ---- masks with the last bits of m digits

unfoldable pub ones : ℕ → ℕ
ones zero = 0
ones (suc m) = ones m * 16 + 1

pub masked : (m z : ℕ) → Alike 1 m (bit_and z (ones m)) (bit_and z (ones m))
unfolding ones
masked zero z = let e : bit_and z 0 ≡ 0 = omega (arith, and_le_r z 0) in none (bit_and z 0) (bit_and z 0) e e
masked (suc m) z =
    let e : bit_and z (ones m * 16 + 1) ≡ bit_and (z / 16) (ones m) * 16 + z % 2 =
    ap (λ w. bit_and w (ones m * 16 + 1)) (sym (shr_split z 4))
    ∙ and_block 4 (z / 16) (ones m) (z % 16) 1 (omega arith) (omega arith)
    ∙ ap (λ r. bit_and (z / 16) (ones m) * 16 + r) (and_mask (z % 16) 1 ∙ (let g : z % 16 % 2 ≡ z % 2 = omega arith in g)) in
    more m (bit_and z (ones m * 16 + 1)) (bit_and z (ones m * 16 + 1)) (bit_and (z / 16) (ones m)) (bit_and (z / 16) (ones m)) (z % 2)
    (masked m (z / 16)) (omega arith) e (e ∙ ap (λ r. bit_and (z / 16) (ones m) * 16 + r) (let g : z % 2 ≡ z % 2 % 2 = omega arith in g))

pub kept : (n m s t : ℕ) → n < 16 → Alike n m s t → bit_and s (ones m) ≡ t
unfolding ones
kept n zero s t l (none _ _ e f) = ap (λ x. bit_and x 0) e ∙ sym f
kept n (suc m) s t l (more _ _ _ p q d a k e f) =
    ap (λ x. bit_and x (ones m * 16 + 1)) e
    ∙ and_block 4 p (ones m) d 1 (omega (arith, k, l)) (omega arith)
    ∙ ap₂ (λ x y. x * 16 + y) (kept n m p q l a) (and_mask d 1)
    ∙ sym f
