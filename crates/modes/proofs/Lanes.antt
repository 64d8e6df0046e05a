-- Products in the lanes of vectors of two words of 64 bits.
use Rattle.std.proofs.Common.{◌≡◌, ℕ, zero, suc, ◌*◌, ◌/◌, ◌%◌, ◌^◌, ◌<◌, List, [], ◌∷◌, length, slice_index, Fits, w64, bit_xor, refl, sym, ap, ap₂, subst, ◌∙◌, arith}
use Rattle.std.specs.Simd.Lanes.{zip2, Each1}
use Rattle.std.proofs.lemmas.Simd.{length-zip2, get_or-zip2, Each1-get_or}
use Rattle.std.proofs.lemmas.Nat.{xor_lt, xor_mod}
use Rattle.aes.specs.Polynomial.{polynomial_product}
use Rattle.modes.proofs.Rows.{rows_product, product_rows}
use Rattle.modes.proofs.Karatsuba.{joined, joined_is, karatsuba}

-- a vector of two lanes, with a in lane l
pub record Lane (l : ℕ) (v : List ℕ) (a : ℕ) : Type 0 where
  pub within : l < 2
  pub long : length v ≡ 2
  pub is : slice_index v l ≡ a

pub lane : (l : ℕ) → l < 2 → (v : List ℕ) → length v ≡ 2 → Lane l v (slice_index v l)
lane l h v e = record { within = h; long = e; is = refl }

pub lane_by : (f : ℕ → ℕ → ℕ) {l : ℕ} {v w : List ℕ} {a b : ℕ} → Lane l v a → Lane l w b → Lane l (zip2 f v w) (f a b)
lane_by f {l} {v} {w} {a} {b} p q = record {
  within = p.within;
  long = length-zip2 f v w (p.long ∙ sym q.long) ∙ p.long;
  is = get_or-zip2 f v w l 0 0 0 (subst (λ n. l < n) (sym p.long) p.within) (subst (λ n. l < n) (sym q.long) p.within) ∙ ap₂ f p.is q.is;
}

pub lane_splat : (l m : ℕ) → l < 2 → Lane l (m ∷ m ∷ []) m
lane_splat zero m h = record { within = h; long = refl; is = refl }
lane_splat (suc zero) m h = record { within = h; long = refl; is = refl }
lane_splat (suc (suc l)) m h = absurd (omega arith)

pub lane_fits : (l : ℕ) → l < 2 → (v : List ℕ) → length v ≡ 2 → Each1 (Fits w64) v → slice_index v l < 2 ^ 64
lane_fits l h v e all = (Each1-get_or (Fits w64) v l 0 (subst (λ n. l < n) (sym e) h) all).fits

pub lane_sum : {l : ℕ} {v w : List ℕ} {a b : ℕ} → Lane l v a → Lane l w b → Lane l (zip2 bit_xor v w) (bit_xor a b)
lane_sum p q = lane_by bit_xor p q

-- ---- Karatsuba's rule in a lane

-- The products of the fronts, of the backs and of the sums of halves of 32 bits, as the code joins them.
pub lane_joined : (x y x1 y1 sx sy front back sum : ℕ) → x < 2 ^ 64 → y < 2 ^ 64 → back < 2 ^ 64
    → x1 ≡ x / 2 ^ 32 → y1 ≡ y / 2 ^ 32 → sx ≡ bit_xor (x / 2 ^ 32) x → sy ≡ bit_xor (y / 2 ^ 32) y
    → front ≡ polynomial_product 128 (x1 % 2 ^ 32) (y1 % 2 ^ 32)
    → back ≡ polynomial_product 128 (x % 2 ^ 32) (y % 2 ^ 32)
    → sum ≡ polynomial_product 128 (sx % 2 ^ 32) (sy % 2 ^ 32)
    → joined 32 64 front back (bit_xor (bit_xor sum front) back) ≡ polynomial_product 128 x y
lane_joined x y x1 y1 sx sy front back sum h g small is_x1 is_y1 is_sx is_sy is_front is_back is_sum =
    let below : bit_xor (y / 2 ^ 32) (y % 2 ^ 32) < 2 ^ 32 = xor_lt 32 (y / 2 ^ 32) (y % 2 ^ 32) (omega (arith, g)) (omega arith) in
    let fronts_are = is_front ∙ product_rows _ _ (x / 2 ^ 32) (y / 2 ^ 32) (omega (arith, g)) (omega (arith, is_x1, h)) (omega (arith, is_y1, g)) in
    let backs_are = is_back ∙ product_rows _ _ (x % 2 ^ 32) (y % 2 ^ 32) (omega arith) refl refl in
    let sums_are = is_sum ∙ product_rows _ _ _ _ (omega (arith, below)) (half_sum x sx h is_sx) (half_sum y sy g is_sy) in
    joined_is 32 64 (λ m. omega arith) front back (bit_xor (bit_xor sum front) back) small
    ∙ ap₂ bit_xor (ap₂ (λ f b. bit_xor (f * 2 ^ 64) b) fronts_are backs_are)
    (ap (λ m. m * 2 ^ 32) (ap₂ bit_xor (ap₂ bit_xor sums_are fronts_are) backs_are))
    ∙ karatsuba 32 64 (omega arith) (λ v. omega arith) x y (omega (arith, h))
    ∙ rows_product x y (omega (arith, g))
  where
    half_sum : (x sx : ℕ) → x < 2 ^ 64 → sx ≡ bit_xor (x / 2 ^ 32) x → sx % 2 ^ 32 ≡ bit_xor (x / 2 ^ 32) (x % 2 ^ 32)
    half_sum x sx h e =
        ap (λ v. v % 2 ^ 32) e
        ∙ xor_mod (x / 2 ^ 32) x 32
        ∙ ap (λ v. bit_xor v (x % 2 ^ 32)) (let q : x / 2 ^ 32 % 2 ^ 32 ≡ x / 2 ^ 32 = omega (arith, h) in q)
