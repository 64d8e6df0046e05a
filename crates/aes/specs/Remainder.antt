-- The remainder of polynomials over two elements (FIPS 197 section 4.2), defined without a division.
use Rattle.std.specs.Prelude.{◌≡◌, ℕ, suc, ◌^◌, ◌<◌, bit_xor}
use Rattle.std.specs.Int.{bit_at}
use Rattle.aes.specs.Polynomial.{polynomial_product}

-- the highest coefficient of m that is not 0 is that of x ^ d (section 4.2)
pub record IsOfDegree (d m : ℕ) : Type 0 where
  pub leading : bit_at m d ≡ 1
  pub below : m < 2 ^ suc d

-- p is the product of m and another polynomial, both of degree below n (section 4.2)
pub record IsMultiple (m p : ℕ) : Type 0 where
  pub n : ℕ
  pub quotient : ℕ
  pub quotient_fits : quotient < 2 ^ n
  pub fits : m < 2 ^ n
  pub is_product : polynomial_product n quotient m ≡ p

-- r has a lower degree than m, which is of degree d, and differs from p by a multiple of m (section 4.2)
pub record IsRemainder (d m p r : ℕ) : Type 0 where
  pub lower : r < 2 ^ d
  pub multiple : IsMultiple m (bit_xor p r)
