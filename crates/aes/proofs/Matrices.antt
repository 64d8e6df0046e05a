-- The two column mixes undo each other.
use Rattle.std.proofs.Common.{◌≡◌, ℕ, zero, suc, ◌+◌, ◌*◌, ◌^◌, ◌/◌, ◌%◌, ◌<◌, true, false, cond, ◌==◌, List, [], ◌∷◌, length, bit_xor, slice_index, refl, ap, subst, ◌∙◌, arith}
use Rattle.aes.specs.Polynomial.{polynomial_sum, polynomial_remainder, polynomial_product}
use Rattle.aes.specs.Octet.{octet_product}
use Rattle.aes.specs.State.{at, matrix, times_matrix, mix_columns}
use Rattle.aes.specs.InverseCipher.{inverse_mix_columns}
use Rattle.aes.proofs.Xor.{xor_zero_l, xor_zero_r, polynomial_sum-ext, polynomial_sum-swap, polynomial_sum-xor, polynomial_sum-zero}
use Rattle.aes.proofs.Rows.{LinearBelow, linear_agree}
use Rattle.aes.proofs.Products.{octet_product-lt, octet_product-xor, octet_product-zero, octet_product-sum}
use Rattle.aes.proofs.Squares.{at-square, same_square}
use Rattle.aes.proofs.Below.{all_below, equal_below}

-- the sum over k of n r k times m k j times x
abbrev pub through : (ℕ → ℕ → ℕ) → (ℕ → ℕ → ℕ) → ℕ → ℕ → ℕ → ℕ
through n m r j x = polynomial_sum (λ k. octet_product (n r k) (octet_product (m k j) x)) 4

abbrev pub diagonal : ℕ → ℕ → ℕ → ℕ
diagonal r j x = cond (r == j) x 0

-- n undoes m: each octet comes back to its own row and to no other
abbrev pub Undoes : (ℕ → ℕ → ℕ) → (ℕ → ℕ → ℕ) → Type 0
Undoes n m = (r j x : ℕ) → r < 4 → j < 4 → x < 256 → through n m r j x ≡ diagonal r j x

diagonal_sum : (f : ℕ → ℕ) (r : ℕ) → r < 4 → polynomial_sum (λ j. diagonal r j (f j)) 4 ≡ f r
unfolding polynomial_sum
diagonal_sum f zero h = xor_zero_r (bit_xor (bit_xor (bit_xor 0 (f 0)) 0) 0) ∙ xor_zero_r (bit_xor (bit_xor 0 (f 0)) 0)
    ∙ xor_zero_r (bit_xor 0 (f 0)) ∙ xor_zero_l (f 0)
diagonal_sum f (suc zero) h = xor_zero_r (bit_xor (bit_xor (bit_xor 0 0) (f 1)) 0) ∙ xor_zero_r (bit_xor (bit_xor 0 0) (f 1)) ∙ xor_zero_l (f 1)
diagonal_sum f (suc (suc zero)) h = xor_zero_r (bit_xor (bit_xor (bit_xor 0 0) 0) (f 2)) ∙ xor_zero_l (f 2)
diagonal_sum f (suc (suc (suc zero))) h = xor_zero_l (f 3)
diagonal_sum f (suc (suc (suc (suc r)))) h = absurd (omega arith)

times_matrix-undone : (n m : ℕ → ℕ → ℕ) → Undoes n m → (b : List ℕ) → length b ≡ 16 → ((i : ℕ) → slice_index b i < 256) → times_matrix n (times_matrix m b) ≡ b
times_matrix-undone n m u b len small = same_square (λ r c. polynomial_sum (λ k. octet_product (n r k) (at (times_matrix m b) k c)) 4) b len (λ r c hr hc.
    polynomial_sum-ext (λ k. octet_product (n r k) (at (times_matrix m b) k c))
    (λ k. polynomial_sum (λ j. octet_product (n r k) (octet_product (m k j) (at b j c))) 4) 4
    (λ k hk. ap (octet_product (n r k)) (at-square (λ r c. polynomial_sum (λ j. octet_product (m r j) (at b j c)) 4) k c hk hc)
    ∙ octet_product-sum (n r k) (λ j. octet_product (m k j) (at b j c)) 4 (λ j hj. octet_product-lt (m k j) (at b j c) (small (j + 4 * c))))
    ∙ polynomial_sum-swap (λ k j. octet_product (n r k) (octet_product (m k j) (at b j c))) 4 4
    ∙ polynomial_sum-ext (λ j. through n m r j (at b j c)) (λ j. diagonal r j (at b j c)) 4 (λ j hj. u r j (at b j c) hr hj (small (j + 4 * c)))
    ∙ diagonal_sum (λ j. at b j c) r hr)

-- ---- it suffices to test the eight powers of x

diagonal_linear : (r j : ℕ) → LinearBelow 8 (diagonal r j)
diagonal_linear r j = elim (r == j) as (λ b. LinearBelow 8 (λ x. cond b x 0)) [ true ↦ (refl, λ x y h k. refl) | false ↦ (refl, λ x y h k. refl) ]

through_linear : (n m : ℕ → ℕ → ℕ) (r j : ℕ) → LinearBelow 8 (through n m r j)
through_linear n m r j = (
  polynomial_sum-ext (λ k. octet_product (n r k) (octet_product (m k j) 0)) (λ k. 0) 4
      (λ k l. ap (octet_product (n r k)) (octet_product-zero (m k j)) ∙ octet_product-zero (n r k)) ∙ polynomial_sum-zero 4,
  λ x y h l.
      polynomial_sum-ext (λ k. octet_product (n r k) (octet_product (m k j) (bit_xor x y)))
      (λ k. bit_xor (octet_product (n r k) (octet_product (m k j) x)) (octet_product (n r k) (octet_product (m k j) y))) 4
      (λ k lk. ap (octet_product (n r k)) (octet_product-xor (m k j) x y h l)
      ∙ octet_product-xor (n r k) (octet_product (m k j) x) (octet_product (m k j) y) (octet_product-lt (m k j) x h) (octet_product-lt (m k j) y l))
      ∙ polynomial_sum-xor (λ k. octet_product (n r k) (octet_product (m k j) x)) (λ k. octet_product (n r k) (octet_product (m k j) y)) 4,
)

-- If all 128 tests pass, n undoes m on the powers of x. Test number i + 8 j + 32 r is the one for r, j and the power i.
basis : (n m : ℕ → ℕ → ℕ) → all_below (λ t. through n m (t / 32) (t / 8 % 4) (2 ^ (t % 8)) == diagonal (t / 32) (t / 8 % 4) (2 ^ (t % 8))) 128 ≡ true
    → (r j i : ℕ) → r < 4 → j < 4 → i < 8 → through n m r j (2 ^ i) ≡ diagonal r j (2 ^ i)
basis n m e r j i hr hj hi =
    let t = i + 8 * j + 32 * r in
    let a : t / 32 ≡ r = omega arith in
    let b : t / 8 % 4 ≡ j = omega arith in
    let c : t % 8 ≡ i = omega arith in
    subst (λ v. through n m v j (2 ^ i) ≡ diagonal v j (2 ^ i)) a
    (subst (λ v. through n m (t / 32) v (2 ^ i) ≡ diagonal (t / 32) v (2 ^ i)) b
    (subst (λ v. through n m (t / 32) (t / 8 % 4) (2 ^ v) ≡ diagonal (t / 32) (t / 8 % 4) (2 ^ v)) c
    (equal_below (λ t. through n m (t / 32) (t / 8 % 4) (2 ^ (t % 8))) (λ t. diagonal (t / 32) (t / 8 % 4) (2 ^ (t % 8))) 128 t e (omega arith))))

undoes_from : (n m : ℕ → ℕ → ℕ) → all_below (λ t. through n m (t / 32) (t / 8 % 4) (2 ^ (t % 8)) == diagonal (t / 32) (t / 8 % 4) (2 ^ (t % 8))) 128 ≡ true
    → Undoes n m
undoes_from n m e r j x hr hj hx = linear_agree 8 (through n m r j) (diagonal r j) (through_linear n m r j) (diagonal_linear r j)
    (λ i hi. basis n m e r j i hr hj hi) x hx

-- ---- the two matrices

abbrev pub mix : ℕ → ℕ → ℕ
mix = matrix (2 ∷ 3 ∷ 1 ∷ 1 ∷ 1 ∷ 2 ∷ 3 ∷ 1 ∷ 1 ∷ 1 ∷ 2 ∷ 3 ∷ 3 ∷ 1 ∷ 1 ∷ 2 ∷ [])

abbrev pub inverse_mix : ℕ → ℕ → ℕ
inverse_mix = matrix (14 ∷ 11 ∷ 13 ∷ 9 ∷ 9 ∷ 14 ∷ 11 ∷ 13 ∷ 13 ∷ 9 ∷ 14 ∷ 11 ∷ 11 ∷ 13 ∷ 9 ∷ 14 ∷ [])

inverse_mix_undoes : Undoes inverse_mix mix
unfolding all_below octet_product polynomial_sum polynomial_remainder polynomial_product
inverse_mix_undoes = undoes_from inverse_mix mix refl

mix_undoes : Undoes mix inverse_mix
unfolding all_below octet_product polynomial_sum polynomial_remainder polynomial_product
mix_undoes = undoes_from mix inverse_mix refl

pub inverse_mix_columns-mix : (b : List ℕ) → length b ≡ 16 → ((i : ℕ) → slice_index b i < 256) → inverse_mix_columns (mix_columns b) ≡ b
inverse_mix_columns-mix = times_matrix-undone inverse_mix mix inverse_mix_undoes

pub mix_columns-inverse : (b : List ℕ) → length b ≡ 16 → ((i : ℕ) → slice_index b i < 256) → mix_columns (inverse_mix_columns b) ≡ b
mix_columns-inverse = times_matrix-undone mix inverse_mix mix_undoes
