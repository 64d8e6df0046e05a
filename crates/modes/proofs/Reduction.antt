-- The reduction of a product, which is a number of 256 bits in two halves.
use Rattle.std.proofs.Common.{◌≡◌, ℕ, ◌+◌, ◌*◌, ◌/◌, ◌%◌, ◌^◌, ◌<◌, bit_xor, refl, sym, ap, ap₂, ◌∙◌}
use Rattle.std.specs.Int.Bits.{xor_shifted}
use Rattle.std.proofs.lemmas.Nat.{xor_shr, xor_mod}
use Rattle.aes.specs.PolynomialLaws.{IsLinear, PolynomialLaws}
use Rattle.modes.specs.Code.Shifts.{shifted, shifts}
use Rattle.modes.proofs.Shifts.{shifts_whole, shifts_linear}
use Rattle.aes.proofs.Lemmas.{all_below, equal_below, xor_swap}

-- a shift to the left by k bits
abbrev left : ℕ → ℕ → ℕ
left k v = v * 2 ^ k % 2 ^ 128

-- the terms from x ^ 128 on, and those that reduction adds to them
abbrev pub past : ℕ → ℕ
past v = bit_xor (bit_xor (bit_xor v (left 127 v)) (left 126 v)) (left 121 v)

-- the reduction, in which x ^ 128 is 1 + x + x ^ 2 + x ^ 7
abbrev pub folded : ℕ → ℕ
folded v = bit_xor (bit_xor (bit_xor v (v / 2 ^ 1)) (v / 2 ^ 2)) (v / 2 ^ 7)

-- At each power of x, 128 steps of one bit and the reduction of the code agree.
power_folded : (i : ℕ) → i < 128 → shifts (2 ^ i) 128 ≡ folded (past (2 ^ i))
unfolding all_below shifted shifts
power_folded i l = equal_below (λ i. shifts (2 ^ i) 128) (λ i. folded (past (2 ^ i))) 128 i refl l

-- The sum of two linear functions is linear.
pub both_linear : (f g : ℕ → ℕ) → IsLinear f → IsLinear g → IsLinear (λ v. bit_xor (f v) (g v))
both_linear f g is_f is_g a b = ap₂ bit_xor (is_f a b) (is_g a b) ∙ xor_swap (f a) (f b) (g a) (g b)

folded_linear : IsLinear folded
folded_linear =
    both_linear (λ v. bit_xor (bit_xor v (v / 2 ^ 1)) (v / 2 ^ 2)) (λ v. v / 2 ^ 7)
    (both_linear (λ v. bit_xor v (v / 2 ^ 1)) (λ v. v / 2 ^ 2)
    (both_linear (λ v. v) (λ v. v / 2 ^ 1) (λ a b. refl) (λ a b. xor_shr a b 1)) (λ a b. xor_shr a b 2))
    (λ a b. xor_shr a b 7)

module _ (laws : PolynomialLaws) where
  left_linear : (k : ℕ) → IsLinear (left k)
  left_linear k a b = ap (λ v. v % 2 ^ 128) (laws.power_linear k a b) ∙ xor_mod (a * 2 ^ k) (b * 2 ^ k) 128

  past_linear : IsLinear past
  past_linear =
      both_linear (λ v. bit_xor (bit_xor v (left 127 v)) (left 126 v)) (left 121)
      (both_linear (λ v. bit_xor v (left 127 v)) (left 126) (both_linear (λ v. v) (left 127) (λ a b. refl) (left_linear 127)) (left_linear 126))
      (left_linear 121)

  -- The code reduces a number as 128 steps of one bit do.
  pub reduced_is : (high low : ℕ) → low < 2 ^ 128 → bit_xor high (folded (past low)) ≡ shifts (high * 2 ^ 128 + low) 128
  reduced_is high low s = sym (
      ap (λ v. shifts v 128) (sym (xor_shifted high 128 low s))
      ∙ shifts_linear laws 128 (high * 2 ^ 128) low
      ∙ ap₂ bit_xor
      (shifts_whole high 128)
      (laws.linear_agree (λ v. shifts v 128) (λ v. folded (past v)) 128 low (shifts_linear laws 128)
      (λ a b. ap folded (past_linear a b) ∙ folded_linear (past a) (past b))
      power_folded s))
