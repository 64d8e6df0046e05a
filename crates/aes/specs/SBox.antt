-- The S-box.
use Rattle.std.specs.Prelude.{ℕ, ◌+◌, ◌*◌, ◌^◌, ◌%◌}
use Rattle.std.specs.Int.{bit_at}
use Rattle.aes.specs.Polynomial.{polynomial_sum}
use Rattle.aes.specs.Octet.{octet_inverse}

-- ---- FIPS 197 section 5.1.1

-- bit i is the sum of the bits i, i + 4, i + 5, i + 6, i + 7 (modulo 8) of b and bit i of 0x63
unfoldable pub s_box_bit : ℕ → ℕ → ℕ
s_box_bit b i = (bit_at b i + bit_at b ((i + 4) % 8) + bit_at b ((i + 5) % 8) + bit_at b ((i + 6) % 8) + bit_at b ((i + 7) % 8) + bit_at 0x63 i) % 2

-- the octet of these bits of b
unfoldable pub s_box_sum : ℕ → ℕ
s_box_sum b = polynomial_sum (λ i. s_box_bit b i * 2 ^ i) 8

unfoldable pub s_box : ℕ → ℕ
s_box x = s_box_sum (octet_inverse x)
