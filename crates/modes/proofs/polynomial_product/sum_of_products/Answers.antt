use Rattle.std.proofs.Common.{◌≡◌, ℕ, ◌+◌, ◌*◌, ◌%◌, ◌^◌, ◌<◌, List, [], ◌∷◌, length, slice_index, bit_xor, sym, ap, ap₂, ◌∙◌, arith, rules}
use Rattle.std.specs.Int.Bits.{xor_comm, xor_zero_r, xor_shifted}
use Rattle.std.specs.Simd.Lanes.{fold_l}
use Rattle.std.proofs.lemmas.Nat.{xor_block, xor_lt}
use Rattle.modes.proofs.polynomial_product.sum_of_products.Goals as goal

fold_two : (v : List ℕ) → length v ≡ 2 → fold_l bit_xor 0 v ≡ bit_xor (slice_index v 0) (slice_index v 1)
fold_two [] e = absurd (omega (arith, e))
fold_two (a ∷ []) e = absurd (omega (arith, e))
fold_two (a ∷ b ∷ []) e = ap (λ u. bit_xor u b) (xor_comm 0 a ∙ xor_zero_r a)
fold_two (a ∷ b ∷ c ∷ r) e = absurd (omega (arith, e))

-- The sum of two numbers of two words each is the number of the sums of the words.
folded : (h l p q : ℕ) (h0 l0 h1 l1 : ℕ) → h0 < 2 ^ 64 → h1 < 2 ^ 64 → l0 < 2 ^ 64 → l1 < 2 ^ 64
    → h ≡ bit_xor h0 h1 → l ≡ bit_xor l0 l1 → h0 * 2 ^ 64 + l0 ≡ p → h1 * 2 ^ 64 + l1 ≡ q
    → bit_xor (h * 2 ^ 64 % 2 ^ 128) l ≡ bit_xor p q
folded h l p q h0 l0 h1 l1 sh0 sh1 sl0 sl1 is_h is_l is_p is_q =
    let high : bit_xor h0 h1 < 2 ^ 64 = xor_lt 64 h0 h1 sh0 sh1 in
    ap₂ (λ h l. bit_xor (h * 2 ^ 64 % 2 ^ 128) l) is_h is_l
    ∙ ap (λ v. bit_xor v (bit_xor l0 l1)) (let e : bit_xor h0 h1 * 2 ^ 64 % 2 ^ 128 ≡ bit_xor h0 h1 * 2 ^ 64 = omega (arith, high) in e)
    ∙ xor_shifted (bit_xor h0 h1) 64 (bit_xor l0 l1) (xor_lt 64 l0 l1 sl0 sl1)
    ∙ sym (xor_block 64 h0 h1 l0 l1 sl0 sl1)
    ∙ ap₂ bit_xor is_p is_q

pub returns : goal.returns
returns c =
    let low = c.product_64.result.0 in
    let high = c.product_64.result.1 in
    let long_low : length low ≡ 2 = search rules in
    let long_high : length high ≡ 2 = search rules in
    let h0 : slice_index high 0 < 2 ^ 64 = search rules in
    let h1 : slice_index high 1 < 2 ^ 64 = search rules in
    let l0 : slice_index low 0 < 2 ^ 64 = search rules in
    let l1 : slice_index low 1 < 2 ^ 64 = search rules in
    folded _ _ _ _ (slice_index high 0) (slice_index low 0) (slice_index high 1) (slice_index low 1) h0 h1 l0 l1
    (fold_two high long_high) (fold_two low long_low)
    (c.product_64.ensures 0 (omega arith)) (c.product_64.ensures 1 (omega arith))
