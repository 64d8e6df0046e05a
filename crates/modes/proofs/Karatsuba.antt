-- The product of two numbers as polynomials from those of their halves, by Karatsuba's rule: halves of n bits, and d twice n.
use Rattle.std.proofs.Common.{◌≡◌, ℕ, ◌+◌, ◌*◌, ◌/◌, ◌%◌, ◌^◌, ◌<◌, ◌≤◌, bit_xor, sym, ap, ap₂, ◌∙◌, arith, lt_of_lt_of_le, pow_mono}
use Rattle.std.specs.Int.Bits.{xor_assoc, xor_comm, xor_shifted}
use Rattle.std.proofs.lemmas.Nat.{pow_pos, shr_split, mod_below, xor_lt, xor_block}
use Rattle.aes.proofs.Lemmas.{xor_swap, xor_twice}
use Rattle.modes.proofs.Rows.{laws, rows, rows_left, rows_right, rows_left_times, rows_right_times}

-- The product of the sums without the products of the fronts and of the backs leaves the two mixed products.
mixed : (a b c d : ℕ) → bit_xor (bit_xor (bit_xor (bit_xor d c) (bit_xor b a)) a) d ≡ bit_xor c b
mixed a b c d =
    ap (λ v. bit_xor v d)
    (xor_assoc (bit_xor d c) (bit_xor b a) a
    ∙ ap (bit_xor (bit_xor d c)) (xor_twice b a)
    ∙ xor_assoc d c b
    ∙ xor_comm d (bit_xor c b))
    ∙ xor_twice (bit_xor c b) d

turned : (a c b d : ℕ) → bit_xor (bit_xor a c) (bit_xor b d) ≡ bit_xor (bit_xor d c) (bit_xor b a)
turned a c b d = ap₂ bit_xor (xor_comm a c) (xor_comm b d) ∙ xor_swap c a d b ∙ ap₂ bit_xor (xor_comm c d) (xor_comm a b)

regrouped : (a b c d : ℕ) → bit_xor (bit_xor a b) (bit_xor c d) ≡ bit_xor (bit_xor a d) (bit_xor c b)
regrouped a b c d = ap (bit_xor (bit_xor a b)) (xor_comm c d) ∙ xor_swap a b d c ∙ ap (bit_xor (bit_xor a d)) (xor_comm b c)

halved : (x n : ℕ) → bit_xor (x / 2 ^ n * 2 ^ n) (x % 2 ^ n) ≡ x
halved x n = xor_shifted (x / 2 ^ n) n (x % 2 ^ n) (mod_below x (2 ^ n) (pow_pos n)) ∙ shr_split x n

-- the sum of front x ^ d, middle x ^ n and back, in two halves of d bits
abbrev pub joined : ℕ → ℕ → ℕ → ℕ → ℕ → ℕ
joined n d front back middle = bit_xor front (middle / 2 ^ n) * 2 ^ d + bit_xor back (middle * 2 ^ n % 2 ^ d)

module _ (n d : ℕ) (within : n + n ≤ 128) (twice : (v : ℕ) → v * 2 ^ n * 2 ^ n ≡ v * 2 ^ d) (x1 x0 y1 y0 : ℕ) (low_x1 : x1 < 2 ^ n) (low_x0 : x0 < 2 ^ n) where
  wide : (x : ℕ) → x < 2 ^ n → x < 2 ^ 128
  wide x h = lt_of_lt_of_le h (pow_mono (let e : n ≤ 128 = omega (arith, within) in e))

  middle_is : bit_xor (bit_xor (rows (bit_xor x1 x0) (bit_xor y1 y0)) (rows x1 y1)) (rows x0 y0) ≡ bit_xor (rows x0 y1) (rows x1 y0)
  middle_is =
      ap (λ v. bit_xor (bit_xor v (rows x1 y1)) (rows x0 y0))
      (rows_right (bit_xor x1 x0) (wide (bit_xor x1 x0) (xor_lt n x1 x0 low_x1 low_x0)) y1 y0
      ∙ ap₂ bit_xor (rows_left y1 x1 x0) (rows_left y0 x1 x0)
      ∙ turned (rows x1 y1) (rows x0 y1) (rows x1 y0) (rows x0 y0))
      ∙ mixed (rows x1 y1) (rows x1 y0) (rows x0 y1) (rows x0 y0)

  by_halves : (x : ℕ) → x < 2 ^ 128 → rows x (bit_xor (y1 * 2 ^ n) y0) ≡ bit_xor (rows x y1 * 2 ^ n) (rows x y0)
  by_halves x s = rows_right x s (y1 * 2 ^ n) y0 ∙ ap (λ r. bit_xor r (rows x y0)) (rows_right_times x y1 n s)

  whole_is : rows (bit_xor (x1 * 2 ^ n) x0) (bit_xor (y1 * 2 ^ n) y0)
      ≡ bit_xor (bit_xor (rows x1 y1 * 2 ^ d) (rows x0 y0)) (bit_xor (rows x0 y1) (rows x1 y0) * 2 ^ n)
  whole_is =
      rows_left (bit_xor (y1 * 2 ^ n) y0) (x1 * 2 ^ n) x0
      ∙ ap₂ bit_xor
      (rows_left_times x1 (bit_xor (y1 * 2 ^ n) y0) n n within low_x1
      ∙ ap (λ r. r * 2 ^ n) (by_halves x1 (wide x1 low_x1))
      ∙ laws.power_linear n (rows x1 y1 * 2 ^ n) (rows x1 y0)
      ∙ ap (λ r. bit_xor r (rows x1 y0 * 2 ^ n)) (twice (rows x1 y1)))
      (by_halves x0 (wide x0 low_x0))
      ∙ regrouped (rows x1 y1 * 2 ^ d) (rows x1 y0 * 2 ^ n) (rows x0 y1 * 2 ^ n) (rows x0 y0)
      ∙ ap (bit_xor (bit_xor (rows x1 y1 * 2 ^ d) (rows x0 y0))) (sym (laws.power_linear n (rows x0 y1) (rows x1 y0)))

-- the products of the fronts, of the backs and of the sums of two halves
abbrev pub fronts : ℕ → ℕ → ℕ → ℕ
fronts n x y = rows (x / 2 ^ n) (y / 2 ^ n)

abbrev pub backs : ℕ → ℕ → ℕ → ℕ
backs n x y = rows (x % 2 ^ n) (y % 2 ^ n)

abbrev pub sums : ℕ → ℕ → ℕ → ℕ
sums n x y = rows (bit_xor (x / 2 ^ n) (x % 2 ^ n)) (bit_xor (y / 2 ^ n) (y % 2 ^ n))

abbrev pub middles : ℕ → ℕ → ℕ → ℕ
middles n x y = bit_xor (bit_xor (sums n x y) (fronts n x y)) (backs n x y)

-- The code joins products in two halves of d bits.
pub joined_is : (n d : ℕ) → ((m : ℕ) → m / 2 ^ n * 2 ^ d + m * 2 ^ n % 2 ^ d ≡ m * 2 ^ n) → (front back m : ℕ) → back < 2 ^ d
    → joined n d front back m ≡ bit_xor (bit_xor (front * 2 ^ d) back) (m * 2 ^ n)
joined_is n d split front back m small =
    sym (xor_block d front (m / 2 ^ n) back (m * 2 ^ n % 2 ^ d) small (mod_below (m * 2 ^ n) (2 ^ d) (pow_pos d)))
    ∙ ap₂ bit_xor (sym (xor_shifted front d back small)) (split m)

pub karatsuba : (n d : ℕ) → n + n ≤ 128 → ((v : ℕ) → v * 2 ^ n * 2 ^ n ≡ v * 2 ^ d) → (x y : ℕ) → x / 2 ^ n < 2 ^ n
    → bit_xor (bit_xor (fronts n x y * 2 ^ d) (backs n x y)) (middles n x y * 2 ^ n) ≡ rows x y
karatsuba n d within twice x y low =
    let low_x0 = mod_below x (2 ^ n) (pow_pos n) in
    ap (λ m. bit_xor (bit_xor (fronts n x y * 2 ^ d) (backs n x y)) (m * 2 ^ n))
    (middle_is n d within twice (x / 2 ^ n) (x % 2 ^ n) (y / 2 ^ n) (y % 2 ^ n) low low_x0)
    ∙ sym (whole_is n d within twice (x / 2 ^ n) (x % 2 ^ n) (y / 2 ^ n) (y % 2 ^ n) low low_x0)
    ∙ ap₂ rows (halved x n) (halved y n)
