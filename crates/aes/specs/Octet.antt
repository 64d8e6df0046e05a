-- The field of octets (FIPS 197 section 4). An octet is a polynomial of degree below 8; the sum of two is `bit_xor`.
use Rattle.std.specs.Prelude.{ℕ, zero, suc, ◌==◌, if◌then◌else◌}
use Rattle.aes.specs.Polynomial.{polynomial_product, polynomial_remainder}

-- the product modulo x ^ 8 + x ^ 4 + x ^ 3 + x + 1 (section 4.2)
unfoldable pub octet_product : ℕ → ℕ → ℕ
octet_product a b = polynomial_remainder 8 0x11b 7 (polynomial_product 8 a b)

-- the y below n with x * y = 1, or 0 if there is none (section 4.4)
unfoldable pub inverse_below : ℕ → ℕ → ℕ
inverse_below zero x = 0
inverse_below (suc n) x = if octet_product x n == 1 then n else inverse_below n x

-- the one y with x * y = 1, and 0 for 0 (section 4.4; in the edition of 2001 section 4.2)
unfoldable pub octet_inverse : ℕ → ℕ
octet_inverse x = inverse_below 256 x
