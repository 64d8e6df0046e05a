-- The product of a block and H, from the product of the numbers as polynomials.
use Rattle.std.proofs.Common.{◌≡◌, ℕ, zero, suc, ◌+◌, ◌-◌, ◌*◌, ◌/◌, ◌%◌, ◌^◌, ◌<◌, sym, ap, ap₂, ◌∙◌, arith, zero-mul, one-mul}
use Rattle.std.specs.Int.{bit_at}
use Rattle.std.proofs.Math.Nat.{mul_assoc}
use Rattle.std.proofs.lemmas.Nat.{pow-add, mod_below, xor_lt}
use Rattle.std.proofs.lemmas.Nat.Bits.{bit_at-pow_same, bit_at-pow_other}
use Rattle.aes.specs.PolynomialLaws.{PolynomialLaws}
use Rattle.modes.specs.Ghash.{reflect, block_product}
use Rattle.modes.specs.Code.Shifts.{shifted, shifts}
use Rattle.modes.proofs.BlockProduct.{power_of, product_of, reflect_bit, reflect_twice, power_first, power_next, product_is, product_linear}
use Rattle.modes.proofs.Shifts.{shifts_part, shifts_linear}
use Rattle.modes.proofs.Rows.{sum_alone, rows, rows_left, rows_power}

pub shifted_lt : (v : ℕ) → v < 2 ^ 128 → shifted v < 2 ^ 128
unfolding shifted
shifted_lt v h = xor_lt 128 (v / 2) (v % 2 * (0xe1 * 2 ^ 120)) (omega arith) (omega (arith, mod_below v 2 (omega arith)))

module _ (laws : PolynomialLaws) where
  -- ---- the product of x ^ (127 - i) and h

  shifts_are : (h : ℕ) → h < 2 ^ 128 → (i : ℕ) → i < 128 → (shifts h i < 2 ^ 128) × (reflect (shifts h i) ≡ power_of h i)
  unfolding shifts
  shifts_are h s zero l = (s, power_first laws h)
  shifts_are h s (suc i) l =
      let before = shifts_are h s i (omega (arith, l)) in (
        shifted_lt (shifts h i) before.0,
        power_next laws h (shifts h i) i before.0 (omega (arith, l)) before.1 ∙ ap (power_of h) (let e : i + 1 ≡ suc i = omega arith in e),
      )

  one_term : (h i : ℕ) → i < 128 → product_of (2 ^ i) h 128 ≡ power_of h (127 - i)
  one_term h i l =
      sum_alone (λ j. bit_at (reflect (2 ^ i)) j * power_of h j) 128 (127 - i) (omega arith)
      (λ j m ne.
      ap (λ b. b * power_of h j) (reflect_bit laws (2 ^ i) j m ∙ bit_at-pow_other i (127 - j) (omega (arith, m, l, ne)))
      ∙ zero-mul (power_of h j))
      ∙ ap (λ b. b * power_of h (127 - i))
      (reflect_bit laws (2 ^ i) (127 - i) (omega arith)
      ∙ ap (bit_at (2 ^ i)) (let e : 127 - (127 - i) ≡ i = omega arith in e)
      ∙ bit_at-pow_same i)
      ∙ one-mul (power_of h (127 - i))

  pub at_power : (h i : ℕ) → h < 2 ^ 128 → i < 128 → block_product (2 ^ i) h ≡ shifts h (127 - i)
  at_power h i s l =
      let last = shifts_are h s (127 - i) (omega arith) in
      product_is laws (2 ^ i) h
      ∙ ap reflect (one_term h i l ∙ sym last.1)
      ∙ reflect_twice laws (shifts h (127 - i)) last.0

  -- ---- the product of any block and h

  at_power_shifted : (h i : ℕ) → h < 2 ^ 128 → i < 128 → block_product (2 ^ i) h ≡ shifts (rows (2 ^ i) h * 2) 128
  at_power_shifted h i s l =
      at_power h i s l
      ∙ sym (shifts_part h (i + 1) (127 - i))
      ∙ ap₂ shifts
      (ap (λ p. h * p) (pow-add 2 i 1) ∙ sym (mul_assoc h (2 ^ i) 2) ∙ ap (λ r. r * 2) (sym (rows_power h i l)))
      (let e : i + 1 + (127 - i) ≡ 128 = omega (arith, l) in e)

  pub product_by_rows : (x h : ℕ) → x < 2 ^ 128 → h < 2 ^ 128 → block_product x h ≡ shifts (rows x h * 2) 128
  product_by_rows x h small s = laws.linear_agree (λ x. block_product x h) (λ x. shifts (rows x h * 2) 128) 128 x
      (product_linear laws h)
      (λ p q.
      ap (λ r. shifts (r * 2) 128) (rows_left h p q)
      ∙ ap (λ r. shifts r 128) (laws.power_linear 1 (rows p h) (rows q h))
      ∙ shifts_linear laws 128 (rows p h * 2) (rows q h * 2))
      (λ i l. at_power_shifted h i s l)
      small
