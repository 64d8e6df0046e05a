-- Laws of polynomials over two elements.
use Rattle.std.specs.Prelude.{◌≡◌, ℕ, suc, ◌+◌, ◌*◌, ◌^◌, ◌<◌, bit_xor}
use Rattle.std.specs.Int.{bit_at}
use Rattle.aes.specs.Polynomial.{polynomial_sum, polynomial_product, polynomial_remainder}

-- h of a sum is the sum of h of the terms, by the addition of FIPS 197 section 4.1
abbrev pub IsLinear : (ℕ → ℕ) → Type 0
IsLinear h = (p q : ℕ) → h (bit_xor p q) ≡ bit_xor (h p) (h q)

-- laws of the arithmetic of FIPS 197 sections 4.1 and 4.2
pub record PolynomialLaws : Type 0 where
  -- sums of equal terms are equal
  pub sum_same : (f g : ℕ → ℕ) (n : ℕ) → ((i : ℕ) → i < n → f i ≡ g i) → polynomial_sum f n ≡ polynomial_sum g n
  -- the sum of all f i + g i is the sum of the f i plus that of the g i
  pub sum_of_sums : (f g : ℕ → ℕ) (n : ℕ) → polynomial_sum (λ i. bit_xor (f i) (g i)) n ≡ bit_xor (polynomial_sum f n) (polynomial_sum g n)
  -- a linear map of a sum is the sum of the map of its terms
  pub sum_mapped : (h f : ℕ → ℕ) (n : ℕ) → IsLinear h → h (polynomial_sum f n) ≡ polynomial_sum (λ i. h (f i)) n
  -- the sum of the c_i x ^ i, with i below n, has a degree below n
  pub powers_below : (c : ℕ → ℕ) (n : ℕ) → ((i : ℕ) → c i < 2) → polynomial_sum (λ i. c i * 2 ^ i) n < 2 ^ n
  -- its coefficients are the c_i
  pub powers_coefficient : (c : ℕ → ℕ) (n i : ℕ) → ((k : ℕ) → c k < 2) → i < n → bit_at (polynomial_sum (λ k. c k * 2 ^ k) n) i ≡ c i
  -- the product by x ^ k is linear
  pub power_linear : (k : ℕ) → IsLinear (λ q. q * 2 ^ k)
  -- p times the coefficient of x ^ i is linear
  pub coefficient_linear : (i p : ℕ) → IsLinear (λ q. bit_at q i * p)
  -- linear maps that agree on the powers of x below x ^ n agree below degree n
  pub linear_agree : (f g : ℕ → ℕ) (n p : ℕ) → IsLinear f → IsLinear g → ((i : ℕ) → i < n → f (2 ^ i) ≡ g (2 ^ i)) → p < 2 ^ n → f p ≡ g p
  -- the remainder is linear
  pub remainder_linear : (d m k : ℕ) → IsLinear (polynomial_remainder d m k)
  -- a polynomial of degree below d is its own remainder
  pub remainder_small : (d m k p : ℕ) → p < 2 ^ d → polynomial_remainder d m k p ≡ p
  -- the remainder of x times x ^ i p is that of x times the remainder of x ^ i p
  pub remainder_next : (d m i p : ℕ) → p < 2 ^ d → i < d
      → polynomial_remainder d m d (p * 2 ^ (i + 1)) ≡ polynomial_remainder d m 1 (polynomial_remainder d m d (p * 2 ^ i) * 2)
  -- the remainder of a product is the sum of the q_i times the remainders of x ^ i p
  pub remainder_product : (e m q p : ℕ) → p < 2 ^ suc e → polynomial_remainder (suc e) m e (polynomial_product (suc e) q p)
      ≡ polynomial_sum (λ i. bit_at q i * polynomial_remainder (suc e) m (suc e) (p * 2 ^ i)) (suc e)
