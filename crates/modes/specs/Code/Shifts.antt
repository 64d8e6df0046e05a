-- Blocks of GHASH times x, as the code multiplies (SP 800-38D section 6.3).
use Rattle.std.specs.Prelude.{ℕ, zero, suc, ◌*◌, ◌/◌, ◌%◌, ◌^◌, bit_xor}

-- a block times x, to the right by one bit (section 6.3)
unfoldable pub shifted : ℕ → ℕ
shifted v = bit_xor (v / 2) (v % 2 * (0xe1 * 2 ^ 120))

-- a block times x ^ n
unfoldable pub shifts : ℕ → ℕ → ℕ
shifts v zero = v
shifts v (suc n) = shifted (shifts v n)
