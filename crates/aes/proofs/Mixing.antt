-- The sums of a column, as the code adds them.
use Rattle.std.proofs.Common.{◌≡◌, ℕ, ◌+◌, ◌%◌, ◌<◌, List, [], ◌∷◌, bit_xor, refl, sym, ap, ap₂, ◌∙◌, arith, w8, Fits}
use Rattle.std.specs.Simd.Lanes.{Each1}
use Rattle.aes.specs.Polynomial.{polynomial_sum, polynomial_remainder}
use Rattle.aes.specs.Octet.{octet_product}
use Rattle.aes.specs.SBox.{s_box}
use Rattle.aes.specs.State.{at, square, matrix, sub_bytes, shift_rows, mix_columns}
use Rattle.aes.specs.InverseCipher.{inverse_mix_columns}
use Rattle.aes.proofs.Xor.{xor_assoc, xor_comm, xor_zero_l, xor_swap, xor_self, xor_zero_r, polynomial_sum-ext}
use Rattle.aes.proofs.Below.{all_below, equal_below}
use Rattle.aes.proofs.Boxes.{s_box-lt}
use Rattle.aes.proofs.Products.{x_times, quick, quick_is, octet_product-xor}
use Rattle.aes.proofs.Squares.{at-square, same_square, length-square, by_row}
use Rattle.aes.proofs.Vectors.{at_fits}

-- ---- sums of four, from the first to the last

abbrev pub sum4 : ℕ → ℕ → ℕ → ℕ → ℕ
sum4 p q s t = bit_xor (bit_xor (bit_xor (bit_xor 0 p) q) s) t

pub rotated : (p q s t : ℕ) → sum4 p q s t ≡ sum4 q s t p
rotated p q s t =
    ap (λ x. bit_xor (bit_xor (bit_xor x q) s) t) (xor_zero_l p)
    ∙ ap (λ x. bit_xor x t) (xor_assoc p q s)
    ∙ xor_assoc p (bit_xor q s) t
    ∙ xor_comm p (bit_xor (bit_xor q s) t)
    ∙ ap (λ x. bit_xor (bit_xor (bit_xor x s) t) p) (sym (xor_zero_l q))

pub paired : (p q s t : ℕ) → bit_xor (bit_xor p q) (bit_xor s t) ≡ sum4 p q s t
paired p q s t = sym (xor_assoc (bit_xor p q) s t) ∙ ap (λ x. bit_xor (bit_xor (bit_xor x q) s) t) (sym (xor_zero_l p))

times_1 : (x : ℕ) → x < 256 → octet_product 1 x ≡ x
unfolding all_below quick x_times polynomial_remainder
times_1 x h = quick_is 1 x h ∙ equal_below (quick 8 1) (λ x. x) 256 x refl h

times_3 : (x : ℕ) → x < 256 → octet_product 3 x ≡ bit_xor (octet_product 2 x) x
unfolding all_below quick x_times polynomial_remainder
times_3 x h = quick_is 3 x h ∙ equal_below (quick 8 3) (λ x. bit_xor (quick 8 2 x) x) 256 x refl h ∙ ap (λ y. bit_xor y x) (sym (quick_is 2 x h))

mixed_four : (a b c d : ℕ) → a < 256 → b < 256 → c < 256 → d < 256
    → bit_xor (bit_xor (octet_product 2 (bit_xor a b)) b) (bit_xor c d) ≡ sum4 (octet_product 2 a) (octet_product 3 b) (octet_product 1 c) (octet_product 1 d)
mixed_four a b c d ha hb hc hd =
    ap (λ x. bit_xor (bit_xor x b) (bit_xor c d)) (octet_product-xor 2 a b ha hb)
    ∙ ap (λ x. bit_xor x (bit_xor c d)) (xor_assoc (octet_product 2 a) (octet_product 2 b) b ∙ ap (bit_xor (octet_product 2 a)) (sym (times_3 b hb)))
    ∙ sym (xor_assoc (bit_xor (octet_product 2 a) (octet_product 3 b)) c d)
    ∙ ap₂ (λ x y. bit_xor (bit_xor (bit_xor (octet_product 2 a) (octet_product 3 b)) x) y) (sym (times_1 c hc)) (sym (times_1 d hd))
    ∙ ap (λ x. bit_xor (bit_xor (bit_xor x (octet_product 3 b)) (octet_product 1 c)) (octet_product 1 d)) (sym (xor_zero_l (octet_product 2 a)))

-- ---- the columns mixed

-- the constant of two is gone
both_gone : (a b m : ℕ) → bit_xor (bit_xor a m) (bit_xor b m) ≡ bit_xor a b
both_gone a b m = xor_swap a m b m ∙ ap (bit_xor (bit_xor a b)) (xor_self m) ∙ xor_zero_r (bit_xor a b)

shuffled : (p q b c d m : ℕ) → bit_xor (bit_xor q c) (bit_xor (bit_xor p b) (bit_xor d m)) ≡ bit_xor (bit_xor (bit_xor p q) (bit_xor b m)) (bit_xor c d)
shuffled p q b c d m =
    let n = bit_xor b m in
    ap (bit_xor (bit_xor q c)) (xor_swap p b d m)
    ∙ sym (xor_assoc (bit_xor q c) (bit_xor p d) n)
    ∙ ap (λ x. bit_xor x n) (xor_swap q c p d)
    ∙ xor_assoc (bit_xor q p) (bit_xor c d) n
    ∙ ap₂ bit_xor (xor_comm q p) (xor_comm (bit_xor c d) n)
    ∙ sym (xor_assoc (bit_xor p q) n (bit_xor c d))

abbrev pub turned : List ℕ → ℕ → ℕ → ℕ
turned x r c = at x r ((c + r) % 4)

-- f is the S-box of h without its constant, and g is twice that
pub record IsSub (f g h : ℕ → ℕ) : Type 0 where
  pub small : (y : ℕ) → y < 256 → f y < 256
  pub boxed : (y : ℕ) → y < 256 → bit_xor (f y) 0x63 ≡ s_box (h y)
  pub twice : (y : ℕ) → y < 256 → g y ≡ octet_product 2 (f y)

module _ (f g h : ℕ → ℕ) (is : IsSub f g h) where
  lane : (w x y z : ℕ) → w < 256 → x < 256 → y < 256 → z < 256
      → bit_xor (bit_xor (g x) (f y)) (bit_xor (bit_xor (g w) (f x)) (bit_xor (f z) 0x63))
      ≡ sum4 (octet_product 2 (s_box (h w))) (octet_product 3 (s_box (h x))) (octet_product 1 (s_box (h y))) (octet_product 1 (s_box (h z)))
  lane w x y z hw hx hy hz =
      let a = f w in
      let b = f x in
      let c = f y in
      let d = f z in
      let m : ℕ = 0x63 in
      ap₂ (λ p q. bit_xor (bit_xor q c) (bit_xor (bit_xor p b) (bit_xor d m))) (is.twice w hw) (is.twice x hx)
      ∙ shuffled (octet_product 2 a) (octet_product 2 b) b c d m
      ∙ ap₂ (λ p q. bit_xor (bit_xor p (bit_xor b m)) q)
      (sym (octet_product-xor 2 a b (is.small w hw) (is.small x hx)) ∙ ap (octet_product 2) (sym (both_gone a b m)))
      (sym (both_gone c d m))
      ∙ ap₂ (λ p q. bit_xor (bit_xor (octet_product 2 (bit_xor p q)) q) (bit_xor (bit_xor c m) (bit_xor d m))) (is.boxed w hw) (is.boxed x hx)
      ∙ ap₂ (λ p q. bit_xor (bit_xor (octet_product 2 (bit_xor (s_box (h w)) (s_box (h x)))) (s_box (h x))) (bit_xor p q)) (is.boxed y hy) (is.boxed z hz)
      ∙ mixed_four (s_box (h w)) (s_box (h x)) (s_box (h y)) (s_box (h z)) (s_box-lt (h w)) (s_box-lt (h x)) (s_box-lt (h y)) (s_box-lt (h z))

  -- row r and column l of what is computed: v is the state with its rows turned
  abbrev pub mixed_at : (ℕ → ℕ → ℕ) → ℕ → ℕ → ℕ
  mixed_at v r l = bit_xor (bit_xor (g (v ((r + 1) % 4) l)) (f (v (((r + 1) % 4 + 1) % 4) l)))
      (bit_xor (bit_xor (g (v r l)) (f (v ((r + 1) % 4) l))) (bit_xor (f (v ((r + 3) % 4) l)) 0x63))

  -- x holds the state t in the basis of h
  pub mixed : (x t : List ℕ) → ((r c : ℕ) → r < 4 → c < 4 → at t r c ≡ h (at x r c)) → Each1 (Fits w8) x
      → square (mixed_at (turned x)) ≡ mix_columns (shift_rows (sub_bytes t))
  unfolding polynomial_sum
  mixed x t held fits = same_square (mixed_at (turned x)) (mix_columns (shift_rows (sub_bytes t))) (length-square _) (λ r l hr hl.
      let m = matrix (2 ∷ 3 ∷ 1 ∷ 1 ∷ 1 ∷ 2 ∷ 3 ∷ 1 ∷ 1 ∷ 1 ∷ 2 ∷ 3 ∷ 3 ∷ 1 ∷ 1 ∷ 2 ∷ []) in
      let v = turned x in
      let a = v 0 l in
      let b = v 1 l in
      let c = v 2 l in
      let d = v 3 l in
      let ha : a < 256 = at_fits x 0 ((l + 0) % 4) fits in
      let hb : b < 256 = at_fits x 1 ((l + 1) % 4) fits in
      let hc : c < 256 = at_fits x 2 ((l + 2) % 4) fits in
      let hd : d < 256 = at_fits x 3 ((l + 3) % 4) fits in
      let sa = s_box (h a) in
      let sb = s_box (h b) in
      let sc = s_box (h c) in
      let sd = s_box (h d) in
      by_row (λ r. mixed_at v r l ≡ polynomial_sum (λ j. octet_product (m r j) (s_box (h (v j l)))) 4)
      (lane a b c d ha hb hc hd)
      (lane b c d a hb hc hd ha ∙ sym (rotated (octet_product 1 sa) (octet_product 2 sb) (octet_product 3 sc) (octet_product 1 sd)))
      (lane c d a b hc hd ha hb
      ∙ rotated (octet_product 2 sc) (octet_product 3 sd) (octet_product 1 sa) (octet_product 1 sb)
      ∙ rotated (octet_product 3 sd) (octet_product 1 sa) (octet_product 1 sb) (octet_product 2 sc))
      (lane d a b c hd ha hb hc ∙ rotated (octet_product 2 sd) (octet_product 3 sa) (octet_product 1 sb) (octet_product 1 sc))
      r hr
      ∙ polynomial_sum-ext (λ j. octet_product (m r j) (s_box (h (v j l)))) (λ j. octet_product (m r j) (at (shift_rows (sub_bytes t)) j l)) 4
      (λ j hj. let around : (l + j) % 4 < 4 = omega arith in
      ap (octet_product (m r j)) (ap s_box (sym (held j ((l + j) % 4) hj around))
      ∙ sym (at-square (λ r c. at (sub_bytes t) r ((c + r) % 4)) j l hj hl ∙ at-square (λ r c. s_box (at t r c)) j ((l + j) % 4) hj around)))
      ∙ sym (at-square (λ r c. polynomial_sum (λ k. octet_product (m r k) (at (shift_rows (sub_bytes t)) k c)) 4) r l hr hl))

-- ---- the columns mixed by the inverse matrix

abbrev pub unmixed_at : List ℕ → ℕ → ℕ → ℕ
unmixed_at x r l = bit_xor (bit_xor (octet_product 14 (at x r l)) (octet_product 11 (at x ((r + 1) % 4) l)))
    (bit_xor (octet_product 13 (at x ((r + 2) % 4) l)) (octet_product 9 (at x ((r + 3) % 4) l)))

pub unmixed : (x : List ℕ) → square (unmixed_at x) ≡ inverse_mix_columns x
unfolding polynomial_sum
unmixed x = same_square (unmixed_at x) (inverse_mix_columns x) (length-square _) (λ r l hr hl.
    let m = matrix (14 ∷ 11 ∷ 13 ∷ 9 ∷ 9 ∷ 14 ∷ 11 ∷ 13 ∷ 13 ∷ 9 ∷ 14 ∷ 11 ∷ 11 ∷ 13 ∷ 9 ∷ 14 ∷ []) in
    let a = at x 0 l in
    let b = at x 1 l in
    let c = at x 2 l in
    let d = at x 3 l in
    by_row (λ r. unmixed_at x r l ≡ polynomial_sum (λ j. octet_product (m r j) (at x j l)) 4)
    (paired (octet_product 14 a) (octet_product 11 b) (octet_product 13 c) (octet_product 9 d))
    (paired (octet_product 14 b) (octet_product 11 c) (octet_product 13 d) (octet_product 9 a)
    ∙ sym (rotated (octet_product 9 a) (octet_product 14 b) (octet_product 11 c) (octet_product 13 d)))
    (paired (octet_product 14 c) (octet_product 11 d) (octet_product 13 a) (octet_product 9 b)
    ∙ rotated (octet_product 14 c) (octet_product 11 d) (octet_product 13 a) (octet_product 9 b)
    ∙ rotated (octet_product 11 d) (octet_product 13 a) (octet_product 9 b) (octet_product 14 c))
    (paired (octet_product 14 d) (octet_product 11 a) (octet_product 13 b) (octet_product 9 c)
    ∙ rotated (octet_product 14 d) (octet_product 11 a) (octet_product 13 b) (octet_product 9 c))
    r hr
    ∙ sym (at-square (λ r c. polynomial_sum (λ k. octet_product (m r k) (at x k c)) 4) r l hr hl))
