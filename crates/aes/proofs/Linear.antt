-- The laws of polynomials, for the crates above.
use Rattle.std.proofs.Common.{◌≡◌, ℕ, zero, suc, ◌-◌, ◌*◌, ◌^◌, ◌<◌, ◌⊎◌, inl, inr, refl, sym, ap, subst, ◌∙◌, arith, zero-mul, one-mul, ⊎_elim}
use Rattle.std.specs.Int.{bit_at}
use Rattle.std.proofs.lemmas.Bool.{cases_eq}
use Rattle.std.proofs.lemmas.Nat.{pow_pos, pow_below}
use Rattle.std.proofs.lemmas.Nat.Bits.{bit_at-lt, bit_at_xor, bit_at_cat_low, bit_at_cat_high}
use Rattle.aes.specs.Polynomial.{polynomial_sum, polynomial_remainder}
use Rattle.aes.specs.PolynomialLaws.{IsLinear, PolynomialLaws}
use Rattle.aes.proofs.Xor.{xor_comm, xor_self, xor_shifted, xor_times_pow, bit_times-xor, bit_cases, polynomial_sum-ext, polynomial_sum-xor, polynomial_sum-map, polynomial_sum-lt}
use Rattle.aes.proofs.Polynomial.{polynomial_remainder-xor, polynomial_remainder-small, polynomial_remainder-zero}
use Rattle.aes.proofs.Rows.{rows_of, next_power, linear_agree, rows_all}

-- A linear function maps 0 to 0.
linear_zero : (h : ℕ → ℕ) → IsLinear h → h 0 ≡ 0
linear_zero h l = l 0 0 ∙ xor_self (h 0)

mapped : (h f : ℕ → ℕ) (n : ℕ) → IsLinear h → h (polynomial_sum f n) ≡ polynomial_sum (λ i. h (f i)) n
mapped h f n l = polynomial_sum-map h (linear_zero h l) l f n

coefficient : (i p : ℕ) → IsLinear (λ q. bit_at q i * p)
coefficient i p a b = ap (λ x. x * p) (bit_at_xor a b i) ∙ bit_times-xor (bit_at a i) (bit_at b i) p (bit_at-lt a i) (bit_at-lt b i)

-- ---- the coefficients of a sum of powers

digit_lt : (c : ℕ) (i n : ℕ) → c < 2 → i < n → c * 2 ^ i < 2 ^ n
digit_lt zero i n h l = subst (λ x. x < 2 ^ n) (sym (zero-mul (2 ^ i))) (pow_pos n)
digit_lt (suc zero) i n h l = subst (λ x. x < 2 ^ n) (sym (one-mul (2 ^ i))) (pow_below i n l)
digit_lt (suc (suc c)) i n h l = absurd (omega arith)

powers_lt : (c : ℕ → ℕ) (n : ℕ) → ((i : ℕ) → c i < 2) → polynomial_sum (λ i. c i * 2 ^ i) n < 2 ^ n
powers_lt c n h = polynomial_sum-lt (λ i. c i * 2 ^ i) n n (λ i l. digit_lt (c i) i n (h i) l)

digit_is : (c : ℕ) → c < 2 → bit_at c 0 ≡ c
digit_is zero h = refl
digit_is (suc zero) h = refl
digit_is (suc (suc c)) h = absurd (omega arith)

powers : (c : ℕ → ℕ) (n k : ℕ) → ((i : ℕ) → c i < 2) → k < n → bit_at (polynomial_sum (λ i. c i * 2 ^ i) n) k ≡ c k
unfolding polynomial_sum
powers c zero k h l = absurd (omega arith)
powers c (suc n) k h l =
    let s = polynomial_sum (λ i. c i * 2 ^ i) n in
    let low : s < 2 ^ n = powers_lt c n h in
    ap (λ x. bit_at x k) (xor_comm s (c n * 2 ^ n) ∙ xor_shifted (c n) n s low)
    ∙ ⊎_elim
    (λ (top : k ≡ n). bit_at_cat_high (c n) n s k low (omega arith) ∙ ap (bit_at (c n)) (let z : k - n ≡ 0 = omega arith in z)
    ∙ digit_is (c n) (h n) ∙ ap c (sym top))
    (λ ne. let below : k < n = omega (arith, ne) in bit_at_cat_low (c n) n s k below ∙ powers c n k h below) (cases_eq k n)

-- ---- the remainder of a product

module _ (d m p : ℕ) where
  -- The remainder of a multiple by a bit is the multiple of the remainder.
  multiple : (b r : ℕ) → (b ≡ 0) ⊎ (b ≡ 1) → polynomial_remainder d m d (b * r) ≡ b * polynomial_remainder d m d r
  multiple b r (inl z) = ap (λ x. polynomial_remainder d m d (x * r)) z ∙ ap (polynomial_remainder d m d) (zero-mul r) ∙ polynomial_remainder-zero d m d
      ∙ sym (ap (λ x. x * polynomial_remainder d m d r) z ∙ zero-mul (polynomial_remainder d m d r))
  multiple b r (inr o) = ap (λ x. polynomial_remainder d m d (x * r)) o ∙ ap (polynomial_remainder d m d) (one-mul r)
      ∙ sym (ap (λ x. x * polynomial_remainder d m d r) o ∙ one-mul (polynomial_remainder d m d r))

  by_rows : (q n : ℕ) → polynomial_remainder d m d (rows_of q p n) ≡ polynomial_sum (λ i. bit_at q i * polynomial_remainder d m d (p * 2 ^ i)) n
  by_rows q n =
      mapped (polynomial_remainder d m d) (λ i. bit_at q i * (p * 2 ^ i)) n (polynomial_remainder-xor d m d)
      ∙ polynomial_sum-ext _ (λ i. bit_at q i * polynomial_remainder d m d (p * 2 ^ i)) n (λ i l. multiple (bit_at q i) (p * 2 ^ i) (bit_cases q i))

pub polynomial_laws : PolynomialLaws
polynomial_laws = record {
  sum_same = polynomial_sum-ext;
  sum_of_sums = polynomial_sum-xor;
  sum_mapped = mapped;
  powers_below = powers_lt;
  powers_coefficient = powers;
  power_linear = λ k a b. sym (xor_times_pow a b k);
  coefficient_linear = coefficient;
  linear_agree = λ f g n p l k e h. linear_agree n f g (linear_zero f l, λ x y u v. l x y) (linear_zero g k, λ x y u v. k x y) e p h;
  remainder_linear = polynomial_remainder-xor;
  remainder_small = polynomial_remainder-small;
  remainder_next = λ d m i p h l. sym (next_power d m p i h l);
  remainder_product = λ e m q p h. sym (rows_all e m q p h) ∙ by_rows (suc e) m p q (suc e);
}
