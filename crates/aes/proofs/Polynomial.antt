-- The product and the remainder of polynomials are linear, and x times a remainder is one step.
use Rattle.std.proofs.Common.{◌≡◌, ℕ, zero, suc, ◌+◌, ◌*◌, ◌^◌, ◌<◌, bit_xor, refl, sym, ap, ap₂, ◌∙◌, arith, ◌⊎◌, inl, inr, mod-eq_of_lt, zero-mul, one-mul, mul_assoc, mul_comm, pow-add}
use Rattle.std.specs.Int.{bit_at}
use Rattle.std.proofs.lemmas.Nat.{pow_pos}
use Rattle.std.proofs.lemmas.Nat.Bits.{bit_at_above, bit_at_xor, bit_at-lt}
use Rattle.aes.specs.Polynomial.{polynomial_sum, polynomial_product, polynomial_remainder}
use Rattle.aes.proofs.Xor.{xor_swap, xor_zero_r, bit_times-xor, xor_times_pow, bit_at-shifted, polynomial_sum-ext, polynomial_sum-map, polynomial_sum-zero, bits_sum, bit_cases}

pub polynomial_remainder-xor : (d m k p q : ℕ) → polynomial_remainder d m k (bit_xor p q)
    ≡ bit_xor (polynomial_remainder d m k p) (polynomial_remainder d m k q)
unfolding polynomial_remainder
polynomial_remainder-xor d m zero p q = refl
polynomial_remainder-xor d m (suc k) p q =
    ap (polynomial_remainder d m k)
    (ap (λ x. bit_xor (bit_xor p q) x) (ap (λ x. x * (m * 2 ^ k)) (bit_at_xor p q (d + k))
    ∙ bit_times-xor (bit_at p (d + k)) (bit_at q (d + k)) (m * 2 ^ k) (bit_at-lt p (d + k)) (bit_at-lt q (d + k)))
    ∙ xor_swap p q (bit_at p (d + k) * (m * 2 ^ k)) (bit_at q (d + k) * (m * 2 ^ k)))
    ∙ polynomial_remainder-xor d m k (bit_xor p (bit_at p (d + k) * (m * 2 ^ k))) (bit_xor q (bit_at q (d + k) * (m * 2 ^ k)))

-- A step at a coefficient that is 0 changes nothing.
pub no_step : (p b m : ℕ) → b ≡ zero → bit_xor p (b * m) ≡ p
no_step p b m z = ap (λ x. bit_xor p (x * m)) z ∙ ap (bit_xor p) (zero-mul m) ∙ xor_zero_r p

-- A polynomial of degree below d is its own remainder.
pub polynomial_remainder-small : (d m k p : ℕ) → p < 2 ^ d → polynomial_remainder d m k p ≡ p
unfolding polynomial_remainder
polynomial_remainder-small d m zero p h = refl
polynomial_remainder-small d m (suc k) p h =
    ap (polynomial_remainder d m k) (no_step p (bit_at p (d + k)) (m * 2 ^ k) (bit_at_above p d (d + k) h (omega arith)))
    ∙ polynomial_remainder-small d m k p h

-- The remainder is the same for every sufficient number of steps.
pub polynomial_remainder-less : (d m k p : ℕ) → p < 2 ^ (d + k) → polynomial_remainder d m (suc k) p ≡ polynomial_remainder d m k p
unfolding polynomial_remainder
polynomial_remainder-less d m k p h = ap (polynomial_remainder d m k)
    (no_step p (bit_at p (d + k)) (m * 2 ^ k) (bit_at_above p (d + k) (d + k) h (omega arith)))

twice_pow : (m k : ℕ) → m * 2 ^ suc k ≡ m * 2 ^ k * 2 ^ 1
twice_pow m k = ap (λ x. m * 2 ^ x) (let e : suc k ≡ k + 1 = omega arith in e) ∙ ap (λ x. m * x) (pow-add 2 k 1) ∙ sym (mul_assoc m (2 ^ k) (2 ^ 1))

-- The remainder of x times p is the remainder of x times the remainder of p.
pub polynomial_remainder-shift : (d m k p : ℕ) → polynomial_remainder d m (suc k) (p * 2 ^ 1)
    ≡ polynomial_remainder d m 1 (polynomial_remainder d m k p * 2 ^ 1)
unfolding polynomial_remainder
polynomial_remainder-shift d m zero p = refl
polynomial_remainder-shift d m (suc k) p =
    let b = bit_at p (d + k) in
    let place : bit_at (p * 2 ^ 1) (d + suc k) ≡ bit_at p (d + k) = ap (bit_at (p * 2 ^ 1)) (let e : d + suc k ≡ 1 + (d + k) = omega arith in e)
    ∙ bit_at-shifted p 1 (d + k) in
    let term : bit_at (p * 2 ^ 1) (d + suc k) * (m * 2 ^ suc k) ≡ b * (m * 2 ^ k) * 2 ^ 1 = ap₂ (λ x y. x * y) place (twice_pow m k)
    ∙ sym (mul_assoc b (m * 2 ^ k) (2 ^ 1)) in
    ap (λ x. polynomial_remainder d m (suc k) (bit_xor (p * 2 ^ 1) x)) term
    ∙ ap (polynomial_remainder d m (suc k)) (xor_times_pow p (b * (m * 2 ^ k)) 1)
    ∙ polynomial_remainder-shift d m k (bit_xor p (b * (m * 2 ^ k)))

pub polynomial_remainder-zero : (d m k : ℕ) → polynomial_remainder d m k zero ≡ zero
polynomial_remainder-zero d m k = polynomial_remainder-small d m k zero (pow_pos d)

-- ---- products

-- The sum of the multiples by a bit is the multiple of the sum.
bit_times_sum : (b : ℕ) (f : ℕ → ℕ) (n : ℕ) → (b ≡ zero) ⊎ (b ≡ 1) → polynomial_sum (λ j. b * f j) n ≡ b * polynomial_sum f n
bit_times_sum b f n (inl z) = polynomial_sum-ext (λ j. b * f j) (λ j. zero) n (λ i l. ap (λ x. x * f i) z ∙ zero-mul (f i)) ∙ polynomial_sum-zero n
    ∙ sym (ap (λ x. x * polynomial_sum f n) z ∙ zero-mul (polynomial_sum f n))
bit_times_sum b f n (inr o) = polynomial_sum-ext (λ j. b * f j) f n (λ i l. ap (λ x. x * f i) o ∙ one-mul (f i))
    ∙ sym (ap (λ x. x * polynomial_sum f n) o ∙ one-mul (polynomial_sum f n))

row : (b n i : ℕ) (c : ℕ) → b < 2 ^ n → (c ≡ zero) ⊎ (c ≡ 1) → polynomial_sum (λ j. c * bit_at b j * 2 ^ (i + j)) n ≡ c * (b * 2 ^ i)
row b n i c h o =
    polynomial_sum-ext (λ j. c * bit_at b j * 2 ^ (i + j)) (λ j. c * (bit_at b j * 2 ^ j * 2 ^ i)) n
    (λ j l. mul_assoc c (bit_at b j) (2 ^ (i + j)) ∙ ap (λ x. c * x)
    (ap (λ x. bit_at b j * x) (pow-add 2 i j ∙ mul_comm (2 ^ i) (2 ^ j)) ∙ sym (mul_assoc (bit_at b j) (2 ^ j) (2 ^ i))))
    ∙ bit_times_sum c (λ j. bit_at b j * 2 ^ j * 2 ^ i) n o
    ∙ ap (λ x. c * x) (sym (polynomial_sum-map (λ x. x * 2 ^ i) (zero-mul (2 ^ i)) (λ x y. sym (xor_times_pow x y i)) (λ j. bit_at b j * 2 ^ j) n)
    ∙ ap (λ x. x * 2 ^ i) (bits_sum b n ∙ mod-eq_of_lt h))

-- A product is the sum of its rows, the a_i times x ^ i b.
pub polynomial_product-rows : (n a b : ℕ) → b < 2 ^ n → polynomial_product n a b ≡ polynomial_sum (λ i. bit_at a i * (b * 2 ^ i)) n
unfolding polynomial_product
polynomial_product-rows n a b h =
    polynomial_sum-ext (λ i. polynomial_sum (λ j. bit_at a i * bit_at b j * 2 ^ (i + j)) n) (λ i. bit_at a i * (b * 2 ^ i)) n
    (λ i l. row b n i (bit_at a i) h (bit_cases a i))
