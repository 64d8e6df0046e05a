-- GHASH (SP 800-38D sections 6.3 and 6.4), over blocks as numbers of 128 bits, first octet highest.
use Rattle.std.specs.Prelude.{ℕ, zero, suc, ◌+◌, ◌-◌, ◌*◌, ◌/◌, ◌%◌, ◌^◌, List, ◌++◌, length, map, replicate, slice_index}
use Rattle.std.specs.Int.{w128, bit_at, from_be_bytes, to_be_bytes}
use Rattle.std.specs.List.{range_with_len}
use Rattle.aes.specs.Polynomial.{polynomial_sum, polynomial_product, polynomial_remainder}
use Rattle.modes.specs.Cbc.{block}

-- the polynomial of a block, with bit 127 - i as the coefficient of x ^ i, and the block of a polynomial (section 6.3)
unfoldable pub reflect : ℕ → ℕ
reflect b = polynomial_sum (λ i. bit_at b (127 - i) * 2 ^ i) 128

-- x ^ 128 + x ^ 7 + x ^ 2 + x + 1 (section 6.3)
abbrev pub modulus : ℕ
modulus = 2 ^ 128 + 0x87

-- the product of two blocks modulo the modulus (section 6.3)
unfoldable pub block_product : ℕ → ℕ → ℕ
block_product x y = reflect (polynomial_remainder 128 modulus 127 (polynomial_product 128 (reflect x) (reflect y)))

-- x multiplied by h, n times (section 6.4)
unfoldable pub times_h : ℕ → ℕ → ℕ → ℕ
times_h h zero x = x
times_h h (suc n) x = block_product (times_h h n x) h

-- the sum of m blocks, with block i (from 0) multiplied by h, m - i times (section 6.4)
unfoldable pub ghash_number : ℕ → List ℕ → ℕ
ghash_number h xs = polynomial_sum (λ i. times_h h (length xs - i) (slice_index xs i)) (length xs)

-- ---- on octets

-- x and then zero octets up to a multiple of 16 (section 7.1, steps 4 and 5)
unfoldable pub zero_filled : List ℕ → List ℕ
zero_filled x = x ++ replicate ((16 - length x % 16) % 16) 0

-- the whole blocks of x as numbers (section 6.4, step 1)
unfoldable pub numbers : List ℕ → List ℕ
numbers x = map (λ i. from_be_bytes w128 (block x i)) (range_with_len 0 (length x / 16))

-- GHASH of whole blocks x under the block h (section 6.4)
unfoldable pub ghash : List ℕ → List ℕ → List ℕ
ghash h x = to_be_bytes w128 (ghash_number (from_be_bytes w128 h) (numbers x))
