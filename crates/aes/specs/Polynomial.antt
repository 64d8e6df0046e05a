-- Polynomials over two elements (FIPS 197 section 4), as numbers: the coefficient of x ^ i is bit i. The sum of two is `bit_xor`.
use Rattle.std.specs.Prelude.{ℕ, zero, suc, ◌+◌, ◌*◌, ◌^◌, bit_xor}
use Rattle.std.specs.Int.{bit_at}

-- f 0 + .. + f (n - 1) (section 4.1)
unfoldable pub polynomial_sum : (ℕ → ℕ) → ℕ → ℕ
polynomial_sum f zero = 0
polynomial_sum f (suc n) = bit_xor (polynomial_sum f n) (f n)

-- the product of two polynomials of degree below n: the sum of the a_i b_j x ^ (i + j) (section 4.2)
unfoldable pub polynomial_product : ℕ → ℕ → ℕ → ℕ
polynomial_product n a b = polynomial_sum (λ i. polynomial_sum (λ j. bit_at a i * bit_at b j * 2 ^ (i + j)) n) n

-- the remainder of p, of degree below d + k, by m, of degree d (section 4.2): long division, from the highest coefficient down
unfoldable pub polynomial_remainder : ℕ → ℕ → ℕ → ℕ → ℕ
polynomial_remainder d m zero p = p
polynomial_remainder d m (suc k) p = polynomial_remainder d m k (bit_xor p (bit_at p (d + k) * (m * 2 ^ k)))
