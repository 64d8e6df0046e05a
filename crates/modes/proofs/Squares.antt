-- Two products by H are one by its square.
use Rattle.std.proofs.Common.{◌≡◌, ℕ, zero, suc, ◌+◌, ◌-◌, ◌^◌, ◌<◌, bit_xor, refl, sym, ap, ap₂, ◌∙◌, arith}
use Rattle.std.proofs.lemmas.Nat.{pow-add}
use Rattle.aes.specs.PolynomialLaws.{IsLinear, PolynomialLaws}
use Rattle.aes.proofs.Lemmas.{all_below, equal_below}
use Rattle.modes.specs.Ghash.{block_product}
use Rattle.modes.specs.Code.Shifts.{shifted, shifts}
use Rattle.modes.proofs.BlockProduct.{shifted_linear, product_linear, product_lt}
use Rattle.modes.proofs.Shifts.{shifted_double, shifts_linear}
use Rattle.modes.proofs.Products.{shifted_lt, at_power}
use Rattle.modes.proofs.Reduction.{both_linear}

-- x ^ 128 is 1 + x + x ^ 2 + x ^ 7
wrapped : ℕ → ℕ
wrapped h = bit_xor (bit_xor (bit_xor (shifts h 0) (shifts h 1)) (shifts h 2)) (shifts h 7)

power_wraps : (i : ℕ) → i < 128 → shifts (2 ^ i) 128 ≡ wrapped (2 ^ i)
unfolding all_below shifts shifted wrapped
power_wraps i l = equal_below (λ i. shifts (2 ^ i) 128) (λ i. wrapped (2 ^ i)) 128 i refl l

first_shifted : shifted (2 ^ 0) ≡ bit_xor (bit_xor (bit_xor (2 ^ 127) (2 ^ 126)) (2 ^ 125)) (2 ^ 120)
unfolding shifted
first_shifted = refl

module _ (laws : PolynomialLaws) where
  wrapped_linear : IsLinear wrapped
  unfolding wrapped
  wrapped_linear =
      both_linear (λ v. bit_xor (bit_xor (shifts v 0) (shifts v 1)) (shifts v 2)) (λ v. shifts v 7)
      (both_linear (λ v. bit_xor (shifts v 0) (shifts v 1)) (λ v. shifts v 2)
      (both_linear (λ v. shifts v 0) (λ v. shifts v 1) (shifts_linear laws 0) (shifts_linear laws 1)) (shifts_linear laws 2))
      (shifts_linear laws 7)

  wraps : (h : ℕ) → h < 2 ^ 128 → shifts h 128 ≡ wrapped h
  wraps h s = laws.linear_agree (λ h. shifts h 128) wrapped 128 h (shifts_linear laws 128) wrapped_linear power_wraps s

  -- the product of x times a power and h
  shifted_power : (h i : ℕ) → h < 2 ^ 128 → i < 128 → block_product (shifted (2 ^ i)) h ≡ shifted (block_product (2 ^ i) h)
  unfolding shifts wrapped
  shifted_power h zero s l =
      ap (λ v. block_product v h) first_shifted
      ∙ product_linear laws h (bit_xor (bit_xor (2 ^ 127) (2 ^ 126)) (2 ^ 125)) (2 ^ 120)
      ∙ ap₂ bit_xor
      (product_linear laws h (bit_xor (2 ^ 127) (2 ^ 126)) (2 ^ 125)
      ∙ ap₂ bit_xor
      (product_linear laws h (2 ^ 127) (2 ^ 126) ∙ ap₂ bit_xor (at_power laws h 127 s (omega arith)) (at_power laws h 126 s (omega arith)))
      (at_power laws h 125 s (omega arith)))
      (at_power laws h 120 s (omega arith))
      ∙ sym (wraps h s)
      ∙ ap shifted (sym (at_power laws h 0 s (omega arith)))
  shifted_power h (suc i) s l =
      ap (λ v. block_product v h) (ap shifted (ap (λ k. 2 ^ k) (let e : suc i ≡ i + 1 = omega arith in e) ∙ pow-add 2 i 1) ∙ shifted_double (2 ^ i))
      ∙ at_power laws h i s (omega (arith, l))
      ∙ ap (shifts h) (let e : 127 - i ≡ suc (127 - suc i) = omega (arith, l) in e)
      ∙ ap shifted (sym (at_power laws h (suc i) s l))

  shifted_product : (h v : ℕ) → h < 2 ^ 128 → v < 2 ^ 128 → block_product (shifted v) h ≡ shifted (block_product v h)
  shifted_product h v s t = laws.linear_agree (λ v. block_product (shifted v) h) (λ v. shifted (block_product v h)) 128 v
      (λ p q. ap (λ x. block_product x h) (shifted_linear laws p q) ∙ product_linear laws h (shifted p) (shifted q))
      (λ p q. ap shifted (product_linear laws h p q) ∙ shifted_linear laws (block_product p h) (block_product q h))
      (λ i l. shifted_power h i s l) t

  shifts_lt : (v n : ℕ) → v < 2 ^ 128 → shifts v n < 2 ^ 128
  unfolding shifts
  shifts_lt v zero s = s
  shifts_lt v (suc n) s = shifted_lt (shifts v n) (shifts_lt v n s)

  shifts_product : (h v n : ℕ) → h < 2 ^ 128 → v < 2 ^ 128 → block_product (shifts v n) h ≡ shifts (block_product v h) n
  unfolding shifts
  shifts_product h v zero s t = refl
  shifts_product h v (suc n) s t = shifted_product h (shifts v n) s (shifts_lt v n t) ∙ ap shifted (shifts_product h v n s t)

  pub by_square : (a h : ℕ) → a < 2 ^ 128 → h < 2 ^ 128 → block_product a (block_product h h) ≡ block_product (block_product a h) h
  by_square a h s t = laws.linear_agree (λ a. block_product a (block_product h h)) (λ a. block_product (block_product a h) h) 128 a
      (product_linear laws (block_product h h))
      (λ p q. ap (λ x. block_product x h) (product_linear laws h p q) ∙ product_linear laws h (block_product p h) (block_product q h))
      (λ i l.
      at_power laws (block_product h h) i (product_lt laws h h) l
      ∙ sym (ap (λ v. block_product v h) (at_power laws h i t l) ∙ shifts_product h h (127 - i) t t))
      s
