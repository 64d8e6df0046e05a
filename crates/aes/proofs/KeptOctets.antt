-- Octets in the basis that is kept, and what the look-ups make of them.
use Rattle.std.proofs.Common.{◌≡◌, ℕ, ◌*◌, ◌^◌, ◌<◌, [], ◌∷◌, nat_lt, true, bit_xor, slice_index, refl, sym, ap, ap₂, subst, ◌∙◌, arith, ltb-true, ⊎_elim, zero-mul, one-mul}
use Rattle.std.specs.Int.{bit_at}
use Rattle.aes.specs.declared.tables.TheConstants.{KEPT, SUB, TWICE, LAST, UNDONE, RECIPROCAL, TIMES_9, TIMES_11, TIMES_13, TIMES_14, CONSTANT}
use Rattle.aes.specs.Octet.{octet_product, octet_inverse}
use Rattle.aes.specs.Polynomial.{polynomial_sum, polynomial_remainder}
use Rattle.aes.specs.SBox.{s_box_bit, s_box_sum, s_box}
use Rattle.aes.specs.InverseCipher.{inverse_s_box}
use Rattle.aes.specs.Code.LookUps.{entry, with_i_of, with_j_of, p_of, q_of, from_halves, from_inverse}
use Rattle.aes.specs.Code.Kept.{plain_octet}
use Rattle.aes.proofs.Xor.{xor_assoc, xor_comm, polynomial_sum-ext, polynomial_sum-xor, polynomial_sum-lt, bit_cases}
use Rattle.aes.proofs.Below.{all_below, all_below_at, equal_below}
use Rattle.aes.proofs.Products.{x_times, quick, quick_is}
use Rattle.aes.proofs.Inverses.{quick_powers, power, inverse_is}
use Rattle.aes.proofs.Linear.{polynomial_laws}
use Rattle.aes.proofs.Boxes.{sum_undone}
use Rattle.aes.proofs.Mixing.{IsSub}

-- ---- sums over bits

abbrev bits_of : (ℕ → ℕ) → ℕ → ℕ
bits_of t y = polynomial_sum (λ i. bit_at y i * t i) 8

bits_of-xor : (t : ℕ → ℕ) (a b : ℕ) → bits_of t (bit_xor a b) ≡ bit_xor (bits_of t a) (bits_of t b)
bits_of-xor t a b =
    polynomial_sum-ext (λ i. bit_at (bit_xor a b) i * t i) (λ i. bit_xor (bit_at a i * t i) (bit_at b i * t i)) 8 (λ i l. polynomial_laws.coefficient_linear i (t i) a b)
    ∙ polynomial_sum-xor (λ i. bit_at a i * t i) (λ i. bit_at b i * t i) 8

bits_of-lt : (t : ℕ → ℕ) → ((i : ℕ) → i < 8 → t i < 256) → (y : ℕ) → bits_of t y < 256
bits_of-lt t small y = polynomial_sum-lt (λ i. bit_at y i * t i) 8 8 (λ i l. ⊎_elim
    (λ z. subst (λ b. b * t i < 256) (sym z) (subst (λ x. x < 256) (sym (zero-mul (t i))) (omega arith)))
    (λ o. subst (λ b. b * t i < 256) (sym o) (subst (λ x. x < 256) (sym (one-mul (t i))) (small i l)))
    (bit_cases y i))

abbrev basis : ℕ → ℕ
basis = slice_index (19 ∷ 212 ∷ 135 ∷ 62 ∷ 1 ∷ 12 ∷ 80 ∷ 176 ∷ [])

basis_small : (i : ℕ) → i < 8 → nat_lt (basis i) 256 ≡ true
unfolding all_below
basis_small i h = all_below_at (λ i. nat_lt (basis i) 256) 8 i refl h

pub plain_octet-xor : (a b : ℕ) → plain_octet (bit_xor a b) ≡ bit_xor (plain_octet a) (plain_octet b)
unfolding plain_octet
plain_octet-xor a b = bits_of-xor basis a b

pub plain_octet-lt : (y : ℕ) → plain_octet y < 256
unfolding plain_octet
plain_octet-lt y = bits_of-lt basis (λ i l. ltb-true (basis i) 256 (basis_small i l)) y

-- ---- encryption

pub plain_constant : plain_octet CONSTANT ≡ 0x63
unfolding plain_octet polynomial_sum
plain_constant = refl

pub plain_kept : (x : ℕ) → x < 256 → plain_octet (from_halves KEPT x) ≡ x
unfolding all_below entry from_halves plain_octet polynomial_sum
plain_kept x h = equal_below (λ x. plain_octet (from_halves KEPT x)) (λ x. x) 256 x refl h

abbrev pub once : ℕ → ℕ
once y = plain_octet (from_inverse SUB y)

abbrev pub twice : ℕ → ℕ
twice y = plain_octet (from_inverse TWICE y)

once_quick : (y : ℕ) → y < 256 → bit_xor (once y) 0x63 ≡ s_box_sum (power (plain_octet y))
unfolding all_below entry with_i_of with_j_of p_of q_of from_inverse plain_octet quick quick_powers x_times polynomial_remainder polynomial_sum s_box_bit s_box_sum
once_quick y h = equal_below (λ y. bit_xor (once y) 0x63) (λ y. s_box_sum (power (plain_octet y))) 256 y refl h

last_quick : (y : ℕ) → y < 256 → bit_xor (from_inverse LAST y) 0x63 ≡ s_box_sum (power (plain_octet y))
unfolding all_below entry with_i_of with_j_of p_of q_of from_inverse plain_octet quick quick_powers x_times polynomial_remainder polynomial_sum s_box_bit s_box_sum
last_quick y h = equal_below (λ y. bit_xor (from_inverse LAST y) 0x63) (λ y. s_box_sum (power (plain_octet y))) 256 y refl h

twice_quick : (y : ℕ) → y < 256 → twice y ≡ quick 8 2 (once y)
unfolding all_below entry with_i_of with_j_of p_of q_of from_inverse plain_octet quick x_times polynomial_remainder polynomial_sum
twice_quick y h = equal_below twice (λ y. quick 8 2 (once y)) 256 y refl h

boxed : (n y : ℕ) → n ≡ s_box_sum (power (plain_octet y)) → n ≡ s_box (plain_octet y)
unfolding s_box
boxed n y e = e ∙ ap s_box_sum (sym (inverse_is (plain_octet y) (plain_octet-lt y)))

pub last_is : (y : ℕ) → y < 256 → bit_xor (from_inverse LAST y) 0x63 ≡ s_box (plain_octet y)
last_is y h = boxed (bit_xor (from_inverse LAST y) 0x63) y (last_quick y h)

pub once_is_sub : IsSub once twice plain_octet
once_is_sub = record {
  small = λ y h. plain_octet-lt (from_inverse SUB y);
  boxed = λ y h. boxed (bit_xor (once y) 0x63) y (once_quick y h);
  twice = λ y h. twice_quick y h ∙ sym (quick_is 2 (once y) (plain_octet-lt (from_inverse SUB y)));
}

-- ---- decryption

abbrev pub summed_octet : ℕ → ℕ
summed_octet y = s_box_sum (plain_octet y)

-- the S-box's sum of bits without its constant
abbrev line : ℕ → ℕ
line = bits_of (λ i. bit_xor (s_box_sum (2 ^ i)) 0x63)

line_is : (b : ℕ) → b < 256 → s_box_sum b ≡ bit_xor (line b) 0x63
unfolding all_below polynomial_sum s_box_bit s_box_sum
line_is b h = equal_below s_box_sum (λ b. bit_xor (line b) 0x63) 256 b refl h

pub summed_undone : (x : ℕ) → x < 256 → summed_octet (from_halves UNDONE x) ≡ x
unfolding all_below entry from_halves plain_octet polynomial_sum s_box_bit s_box_sum
summed_undone x h = equal_below (λ x. summed_octet (from_halves UNDONE x)) (λ x. x) 256 x refl h

reciprocal_quick : (y : ℕ) → y < 256 → from_inverse RECIPROCAL y ≡ power (plain_octet y)
unfolding all_below entry with_i_of with_j_of p_of q_of from_inverse plain_octet quick quick_powers x_times polynomial_remainder polynomial_sum
reciprocal_quick y h = equal_below (from_inverse RECIPROCAL) (λ y. power (plain_octet y)) 256 y refl h

reciprocal_is : (y : ℕ) → y < 256 → from_inverse RECIPROCAL y ≡ octet_inverse (plain_octet y)
reciprocal_is y h = reciprocal_quick y h ∙ sym (inverse_is (plain_octet y) (plain_octet-lt y))

pub inverse_of_summed : (y : ℕ) → y < 256 → inverse_s_box (summed_octet y) ≡ from_inverse RECIPROCAL y
unfolding inverse_s_box
inverse_of_summed y h = ap octet_inverse (sum_undone (plain_octet y) (plain_octet-lt y)) ∙ sym (reciprocal_is y h)

abbrev pub times_14 : ℕ → ℕ
times_14 = from_halves TIMES_14

abbrev pub times_11 : ℕ → ℕ
times_11 = from_halves TIMES_11

abbrev pub times_13 : ℕ → ℕ
times_13 = from_halves TIMES_13

abbrev pub times_9 : ℕ → ℕ
times_9 = from_halves TIMES_9

times_14_is : (x : ℕ) → x < 256 → summed_octet (times_14 x) ≡ quick 8 14 x
unfolding all_below entry from_halves plain_octet polynomial_sum s_box_bit s_box_sum quick x_times polynomial_remainder
times_14_is x h = equal_below (λ x. summed_octet (times_14 x)) (quick 8 14) 256 x refl h

times_11_is : (x : ℕ) → x < 256 → line (plain_octet (times_11 x)) ≡ quick 8 11 x
unfolding all_below entry from_halves plain_octet polynomial_sum s_box_bit s_box_sum quick x_times polynomial_remainder
times_11_is x h = equal_below (λ x. line (plain_octet (times_11 x))) (quick 8 11) 256 x refl h

times_13_is : (x : ℕ) → x < 256 → line (plain_octet (times_13 x)) ≡ quick 8 13 x
unfolding all_below entry from_halves plain_octet polynomial_sum s_box_bit s_box_sum quick x_times polynomial_remainder
times_13_is x h = equal_below (λ x. line (plain_octet (times_13 x))) (quick 8 13) 256 x refl h

times_9_is : (x : ℕ) → x < 256 → line (plain_octet (times_9 x)) ≡ quick 8 9 x
unfolding all_below entry from_halves plain_octet polynomial_sum s_box_bit s_box_sum quick x_times polynomial_remainder
times_9_is x h = equal_below (λ x. line (plain_octet (times_9 x))) (quick 8 9) 256 x refl h

summed-xor : (a b : ℕ) → summed_octet (bit_xor a b) ≡ bit_xor (summed_octet a) (line (plain_octet b))
summed-xor a b =
    let p = plain_octet a in
    let q = plain_octet b in
    line_is (plain_octet (bit_xor a b)) (plain_octet-lt (bit_xor a b))
    ∙ ap (λ x. bit_xor x 0x63) (ap line (plain_octet-xor a b) ∙ bits_of-xor (λ i. bit_xor (s_box_sum (2 ^ i)) 0x63) p q)
    ∙ xor_assoc (line p) (line q) 0x63
    ∙ ap (bit_xor (line p)) (xor_comm (line q) 0x63)
    ∙ sym (xor_assoc (line p) 0x63 (line q))
    ∙ ap (λ x. bit_xor x (line q)) (sym (line_is p (plain_octet-lt a)))

line-xor : (a b : ℕ) → line (plain_octet (bit_xor a b)) ≡ bit_xor (line (plain_octet a)) (line (plain_octet b))
line-xor a b = ap line (plain_octet-xor a b) ∙ bits_of-xor (λ i. bit_xor (s_box_sum (2 ^ i)) 0x63) (plain_octet a) (plain_octet b)

-- the sum of the four products of an inverse column
pub summed_products : (w x y z : ℕ) → w < 256 → x < 256 → y < 256 → z < 256
    → summed_octet (bit_xor (bit_xor (times_14 w) (times_11 x)) (bit_xor (times_13 y) (times_9 z)))
    ≡ bit_xor (bit_xor (octet_product 14 w) (octet_product 11 x)) (bit_xor (octet_product 13 y) (octet_product 9 z))
summed_products w x y z hw hx hy hz =
    summed-xor (bit_xor (times_14 w) (times_11 x)) (bit_xor (times_13 y) (times_9 z))
    ∙ ap₂ bit_xor
    (summed-xor (times_14 w) (times_11 x)
    ∙ ap₂ bit_xor (times_14_is w hw ∙ sym (quick_is 14 w hw)) (times_11_is x hx ∙ sym (quick_is 11 x hx)))
    (line-xor (times_13 y) (times_9 z)
    ∙ ap₂ bit_xor (times_13_is y hy ∙ sym (quick_is 13 y hy)) (times_9_is z hz ∙ sym (quick_is 9 z hz)))
