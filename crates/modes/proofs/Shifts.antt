-- A block times x ^ n, in steps of one bit.
use Rattle.std.proofs.Common.{◌≡◌, ℕ, zero, suc, ◌+◌, ◌*◌, ◌/◌, ◌%◌, ◌^◌, bit_xor, refl, sym, ap, ap₂, ◌∙◌, arith, zero-mul, mul-one}
use Rattle.std.specs.Int.Bits.{xor_zero_r}
use Rattle.std.proofs.Math.Nat.{mul_assoc, pow-succ'}
use Rattle.aes.specs.PolynomialLaws.{IsLinear, PolynomialLaws}
use Rattle.modes.specs.Code.Shifts.{shifted, shifts}
use Rattle.modes.proofs.BlockProduct.{shifted_linear}

pub shifted_double : (v : ℕ) → shifted (v * 2) ≡ v
unfolding shifted
shifted_double v =
    ap₂ (λ a b. bit_xor a (b * (0xe1 * 2 ^ 120))) (let e : v * 2 / 2 ≡ v = omega arith in e) (let e : v * 2 % 2 ≡ 0 = omega arith in e)
    ∙ ap (bit_xor v) (zero-mul (0xe1 * 2 ^ 120))
    ∙ xor_zero_r v

shifts_plus : (v m n : ℕ) → shifts (shifts v m) n ≡ shifts v (m + n)
unfolding shifts
shifts_plus v m zero = ap (shifts v) (let e : m ≡ m + 0 = omega arith in e)
shifts_plus v m (suc n) = ap shifted (shifts_plus v m n) ∙ ap (shifts v) (let e : suc (m + n) ≡ m + suc n = omega arith in e)

power_more : (v k : ℕ) → v * 2 ^ suc k ≡ v * 2 * 2 ^ k
power_more v k = ap (λ p. v * p) (pow-succ' 2 k) ∙ sym (mul_assoc v 2 (2 ^ k))

-- If the last k bits are 0, no bit is shifted out.
pub shifts_whole : (v k : ℕ) → shifts (v * 2 ^ k) k ≡ v
unfolding shifts
shifts_whole v zero = mul-one v
shifts_whole v (suc k) =
    ap (λ w. shifted (shifts w k)) (power_more v k)
    ∙ ap shifted (shifts_whole (v * 2) k)
    ∙ shifted_double v

-- If more than k bits are shifted, the k zeros are shifted out first.
pub shifts_part : (v k n : ℕ) → shifts (v * 2 ^ k) (k + n) ≡ shifts v n
shifts_part v k n = sym (shifts_plus (v * 2 ^ k) k n) ∙ ap (λ w. shifts w n) (shifts_whole v k)

-- The shift of a sum is the sum of the shifts.
module _ (laws : PolynomialLaws) where
  pub shifts_linear : (n : ℕ) → IsLinear (λ v. shifts v n)
  unfolding shifts
  shifts_linear zero a b = refl
  shifts_linear (suc n) a b = ap shifted (shifts_linear n a b) ∙ shifted_linear laws (shifts a n) (shifts b n)
