-- The product of two blocks, bit by bit, from the laws of polynomials.
use Rattle.std.proofs.Common.{◌≡◌, ℕ, suc, ◌+◌, ◌-◌, ◌*◌, ◌/◌, ◌%◌, ◌^◌, ◌<◌, List, [], ◌∷◌, ◌++◌, length, get_or, slice_index, bit_xor, refl, sym, ap, ap₂, subst, ◌∙◌, arith, mul-one, add-one, length-append, get_or-append-add}
use Rattle.std.specs.Int.{bit_at}
use Rattle.std.proofs.Math.ListN.{get_or-append}
use Rattle.std.proofs.lemmas.Nat.{xor_shr}
use Rattle.std.proofs.lemmas.Nat.Bits.{bit_at-lt, bit_at_lowest, same_from_bits_below}
use Rattle.std.specs.Int.Bits.{xor_self}
use Rattle.aes.specs.Polynomial.{polynomial_sum, polynomial_remainder}
use Rattle.aes.specs.PolynomialLaws.{IsLinear, PolynomialLaws}
use Rattle.modes.specs.Ghash.{reflect, modulus, block_product, times_h, ghash_number}
use Rattle.modes.specs.Code.Shifts.{shifted}
use Rattle.aes.proofs.Lemmas.{all_below, equal_below, xor_swap}

-- the remainder of x ^ i times the polynomial of h; and the part of the product that comes from the first i coefficients of x
abbrev pub power_of : ℕ → ℕ → ℕ
power_of h i = polynomial_remainder 128 modulus 128 (reflect h * 2 ^ i)

abbrev pub product_of : ℕ → ℕ → ℕ → ℕ
product_of x h i = polynomial_sum (λ j. bit_at (reflect x) j * power_of h j) i

-- The shift and the multiplication by x agree at each power of x.
step_agrees : (i : ℕ) → i < 128 → reflect (shifted (2 ^ i)) ≡ polynomial_remainder 128 modulus 1 (reflect (2 ^ i) * 2)
unfolding all_below reflect shifted polynomial_sum polynomial_remainder
step_agrees i l = equal_below (λ i. reflect (shifted (2 ^ i))) (λ i. polynomial_remainder 128 modulus 1 (reflect (2 ^ i) * 2)) 128 i refl l

module _ (laws : PolynomialLaws) where
  -- ---- the polynomial of a block

  pub reflect_bit : (v k : ℕ) → k < 128 → bit_at (reflect v) k ≡ bit_at v (127 - k)
  unfolding reflect
  reflect_bit v k h = laws.powers_coefficient (λ i. bit_at v (127 - i)) 128 k (λ i. bit_at-lt v (127 - i)) h

  reflect_lt : (v : ℕ) → reflect v < 2 ^ 128
  unfolding reflect
  reflect_lt v = laws.powers_below (λ i. bit_at v (127 - i)) 128 (λ i. bit_at-lt v (127 - i))

  reflect_linear : IsLinear reflect
  unfolding reflect
  reflect_linear a b =
      laws.sum_same (λ i. bit_at (bit_xor a b) (127 - i) * 2 ^ i) (λ i. bit_xor (bit_at a (127 - i) * 2 ^ i) (bit_at b (127 - i) * 2 ^ i)) 128
      (λ i l. laws.coefficient_linear (127 - i) (2 ^ i) a b)
      ∙ laws.sum_of_sums (λ i. bit_at a (127 - i) * 2 ^ i) (λ i. bit_at b (127 - i) * 2 ^ i) 128

  pub reflect_twice : (v : ℕ) → v < 2 ^ 128 → reflect (reflect v) ≡ v
  reflect_twice v h = same_from_bits_below 128 (reflect (reflect v)) v (reflect_lt (reflect v)) h (λ i l.
      reflect_bit (reflect v) i l ∙ reflect_bit v (127 - i) (omega arith) ∙ ap (bit_at v) (let e : 127 - (127 - i) ≡ i = omega arith in e))

  pub shifted_linear : IsLinear shifted
  unfolding shifted
  shifted_linear a b =
      let r = 0xe1 * 2 ^ 120 in
      let low : (v : ℕ) → v % 2 * r ≡ bit_at v 0 * r = λ v. ap (λ x. x * r) (sym (bit_at_lowest v)) in
      ap₂ bit_xor (xor_shr a b 1) (low (bit_xor a b) ∙ laws.coefficient_linear 0 r a b ∙ sym (ap₂ bit_xor (low a) (low b)))
      ∙ xor_swap (a / 2) (b / 2) (a % 2 * r) (b % 2 * r)

  shifted_is : (v : ℕ) → v < 2 ^ 128 → reflect (shifted v) ≡ polynomial_remainder 128 modulus 1 (reflect v * 2)
  shifted_is v h = laws.linear_agree (λ v. reflect (shifted v)) (λ v. polynomial_remainder 128 modulus 1 (reflect v * 2)) 128 v
      (λ a b. ap reflect (shifted_linear a b) ∙ reflect_linear (shifted a) (shifted b))
      (λ a b.
      ap (λ p. polynomial_remainder 128 modulus 1 (p * 2)) (reflect_linear a b)
      ∙ ap (polynomial_remainder 128 modulus 1) (laws.power_linear 1 (reflect a) (reflect b))
      ∙ laws.remainder_linear 128 modulus 1 (reflect a * 2) (reflect b * 2))
      step_agrees h

  -- ---- the product as a sum

  pub power_first : (h : ℕ) → reflect h ≡ power_of h 0
  power_first h = sym (ap (polynomial_remainder 128 modulus 128) (mul-one (reflect h)) ∙ laws.remainder_small 128 modulus 128 (reflect h) (reflect_lt h))

  pub power_next : (h power i : ℕ) → power < 2 ^ 128 → i < 128 → reflect power ≡ power_of h i → reflect (shifted power) ≡ power_of h (i + 1)
  power_next h power i s l e =
      shifted_is power s
      ∙ ap (λ p. polynomial_remainder 128 modulus 1 (p * 2)) e
      ∙ sym (laws.remainder_next 128 modulus i (reflect h) (reflect_lt h) l)

  pub product_is : (x h : ℕ) → block_product x h ≡ reflect (product_of x h 128)
  unfolding block_product
  product_is x h = ap reflect (laws.remainder_product 127 modulus (reflect x) (reflect h) (reflect_lt h))

  pub product_lt : (x h : ℕ) → block_product x h < 2 ^ 128
  product_lt x h = subst (λ v. v < 2 ^ 128) (sym (product_is x h)) (reflect_lt (product_of x h 128))

  -- ---- Horner's rule

  pub product_linear : (h : ℕ) → IsLinear (λ x. block_product x h)
  product_linear h x y =
      product_is (bit_xor x y) h
      ∙ ap reflect
      (laws.sum_same _ (λ j. bit_xor (bit_at (reflect x) j * power_of h j) (bit_at (reflect y) j * power_of h j)) 128
      (λ j l. ap (λ v. bit_at v j * power_of h j) (reflect_linear x y) ∙ laws.coefficient_linear j (power_of h j) (reflect x) (reflect y))
      ∙ laws.sum_of_sums (λ j. bit_at (reflect x) j * power_of h j) (λ j. bit_at (reflect y) j * power_of h j) 128)
      ∙ reflect_linear (product_of x h 128) (product_of y h 128)
      ∙ ap₂ bit_xor (sym (product_is x h)) (sym (product_is y h))

  pub product_zero : (h : ℕ) → block_product 0 h ≡ 0
  product_zero h = product_linear h 0 0 ∙ xor_self (block_product 0 h)

  -- With one more block, the hash is the sum of the hash so far and the block, times h.
  pub one_more : (h : ℕ) (xs : List ℕ) (x : ℕ) → block_product (bit_xor (ghash_number h xs) x) h ≡ ghash_number h (xs ++ x ∷ [])
  unfolding ghash_number polynomial_sum times_h
  one_more h xs x = sym (
      ap (λ n. polynomial_sum (λ i. times_h h (n - i) (slice_index (xs ++ x ∷ []) i)) n) longer
      ∙ ap₂ bit_xor
      (laws.sum_same _ (λ i. block_product (times_h h (length xs - i) (slice_index xs i)) h) (length xs) (λ i l. front i l)
      ∙ sym (laws.sum_mapped (λ v. block_product v h) (λ i. times_h h (length xs - i) (slice_index xs i)) (length xs) (product_linear h)))
      (ap₂ (times_h h) (let e : suc (length xs) - length xs ≡ 1 = omega arith in e) last)
      ∙ sym (product_linear h (polynomial_sum (λ i. times_h h (length xs - i) (slice_index xs i)) (length xs)) x))
    where
      longer : length (xs ++ x ∷ []) ≡ suc (length xs)
      longer = length-append xs (x ∷ []) ∙ add-one (length xs)

      last : slice_index (xs ++ x ∷ []) (length xs) ≡ x
      last = ap (λ k. get_or (xs ++ x ∷ []) k 0) (let e : length xs ≡ length xs + 0 = omega arith in e) ∙ get_or-append-add xs (x ∷ []) 0 0

      front : (i : ℕ) → i < length xs → times_h h (suc (length xs) - i) (slice_index (xs ++ x ∷ []) i)
          ≡ block_product (times_h h (length xs - i) (slice_index xs i)) h
      front i l = ap₂ (times_h h) (let e : suc (length xs) - i ≡ suc (length xs - i) = omega arith in e) (get_or-append xs (x ∷ []) 0 i l)
