-- Numbers with holes, of which at most each fourth bit is 1, and the bits of their products that are read.
use Rattle.std.proofs.Common.{◌≡◌, ℕ, ◌+◌, ◌*◌, ◌/◌, ◌%◌, ◌^◌, ◌<◌, ◌≤◌, min, bit_and, bit_xor, sym, ap, ap₂, ◌∙◌, arith, add-zero, lt_of_lt_of_le, pow_mono, mod-eq_of_lt}
use Rattle.std.specs.Int.{bit_at}
use Rattle.std.proofs.Math.Nat.{mul_assoc, mul_comm}
use Rattle.std.proofs.lemmas.Nat.{pow-add, shr_split, shl_below, mod_below, pow_pos, mul-lt, and_le_r, and_block}
use Rattle.std.proofs.lemmas.Nat.Bits.{bit_at-lt, bit_at_and, bit_at_xor, same_from_bits}
use Rattle.aes.specs.PolynomialLaws.{IsLinear}
use Rattle.modes.proofs.Rows.{rows, rows_left_times, rows_right_times}
use Rattle.modes.proofs.Digits.{Alike, alike, raised, ones, masked, kept}

-- ---- masks

pub masked_linear : (m : ℕ) → IsLinear (λ v. bit_and v m)
masked_linear m p q = same_from_bits (bit_and (bit_xor p q) m) (bit_xor (bit_and p m) (bit_and q m)) (λ i.
    bit_at_and (bit_xor p q) m i
    ∙ ap (λ b. min b (bit_at m i)) (bit_at_xor p q i)
    ∙ both (bit_at p i) (bit_at q i) (bit_at m i) (bit_at-lt p i) (bit_at-lt q i) (bit_at-lt m i)
    ∙ sym (bit_at_xor (bit_and p m) (bit_and q m) i ∙ ap₂ (λ a b. (a + b) % 2) (bit_at_and p m i) (bit_at_and q m i)))
  where
    both : (a b c : ℕ) → a < 2 → b < 2 → c < 2 → min ((a + b) % 2) c ≡ (min a c + min b c) % 2
    both a b c h k l = omega (arith, h, k, l)

-- A mask that ends in k zeros masks what is before the last k bits.
masked_part : (x m k : ℕ) → bit_and x (m * 2 ^ k) ≡ bit_and (x / 2 ^ k) m * 2 ^ k
masked_part x m k =
    ap₂ bit_and (sym (shr_split x k)) (sym (add-zero (m * 2 ^ k)))
    ∙ and_block k (x / 2 ^ k) m (x % 2 ^ k) 0 (mod_below x (2 ^ k) (pow_pos k)) (pow_pos k)
    ∙ ap (λ r. bit_and (x / 2 ^ k) m * 2 ^ k + r) (let e : bit_and (x % 2 ^ k) 0 ≡ 0 = omega (arith, and_le_r (x % 2 ^ k) 0) in e)
    ∙ add-zero (bit_and (x / 2 ^ k) m * 2 ^ k)

masked_times : (w m k : ℕ) → bit_and (w * 2 ^ k) (m * 2 ^ k) ≡ bit_and w m * 2 ^ k
masked_times w m k =
    ap₂ bit_and (sym (add-zero (w * 2 ^ k))) (sym (add-zero (m * 2 ^ k)))
    ∙ and_block k w m 0 0 (pow_pos k) (pow_pos k)
    ∙ add-zero (bit_and w m * 2 ^ k)

-- each fourth of 32 bits, and of 64
abbrev pub mask : ℕ
mask = 0x11111111

abbrev pub columns : ℕ
columns = 0x1111111111111111

holed : (z : ℕ) → Alike 1 8 (bit_and z mask) (bit_and z mask)
unfolding ones
holed z = masked 8 z

-- ---- the product of part a of x and part b of y, each with every fourth bit, as the code computes it

abbrev pub part : ℕ → ℕ → ℕ
part x a = bit_and x (mask * 2 ^ a)

module _ (x y a b : ℕ) (near : a + b ≤ 6) where
  abbrev u : ℕ
  u = bit_and (x / 2 ^ a) mask

  abbrev v : ℕ
  v = bit_and (y / 2 ^ b) mask

  u-lt : u < 2 ^ 29
  u-lt = omega (arith, and_le_r (x / 2 ^ a) mask)

  v-lt : v < 2 ^ 29
  v-lt = omega (arith, and_le_r (y / 2 ^ b) mask)

  small : u * v < 2 ^ 58
  small = mul-lt u v (2 ^ 29) (2 ^ 29) u-lt v-lt

  meet : Alike 8 16 (u * v) (rows u v)
  meet = alike 8 8 u v (omega (arith, u-lt)) (holed (x / 2 ^ a)) (holed (y / 2 ^ b))

  kept_here : bit_and (u * v) columns ≡ rows u v
  unfolding ones
  kept_here = kept 8 16 (u * v) (rows u v) (omega arith) meet

  kept_next : bit_and (u * v * 16) columns ≡ rows u v * 16
  unfolding ones
  kept_next =
      (let e : bit_and (u * v * 16) columns ≡ bit_and 0 1 * 2 ^ 64 + bit_and (u * v * 16) columns = omega arith in e)
      ∙ sym (and_block 64 0 1 (u * v * 16) columns (omega (arith, small)) (omega arith))
      ∙ ap (λ w. bit_and w (1 * 2 ^ 64 + columns)) (let e : 0 * 2 ^ 64 + u * v * 16 ≡ u * v * 16 = omega arith in e)
      ∙ kept 8 17 (u * v * 16) (rows u v * 16) (omega arith) (raised 8 16 (u * v) (rows u v) meet)

  numbers : part x a * part y b % 2 ^ 64 ≡ u * v * 2 ^ (a + b)
  numbers =
      ap (λ m. m % 2 ^ 64)
      (ap₂ (λ m n. m * n) (masked_part x mask a) (masked_part y mask b)
      ∙ sym (mul_assoc (u * 2 ^ a) v (2 ^ b))
      ∙ ap (λ m. m * 2 ^ b) (mul_assoc u (2 ^ a) v ∙ ap (λ m. u * m) (mul_comm (2 ^ a) v) ∙ sym (mul_assoc u v (2 ^ a)))
      ∙ mul_assoc (u * v) (2 ^ a) (2 ^ b)
      ∙ ap (λ m. u * v * m) (sym (pow-add 2 a b)))
      ∙ mod-eq_of_lt (lt_of_lt_of_le (shl_below (u * v) 58 (a + b) small) (pow_mono (let e : 58 + (a + b) ≤ 64 = omega (arith, near) in e)))

  polynomials : rows (part x a) (part y b) ≡ rows u v * 2 ^ (a + b)
  polynomials =
      ap₂ rows (masked_part x mask a) (masked_part y mask b)
      ∙ rows_left_times u (v * 2 ^ b) a 29 (omega (arith, near)) u-lt
      ∙ ap (λ r. r * 2 ^ a) (rows_right_times u v b (omega (arith, u-lt)))
      ∙ mul_assoc (rows u v) (2 ^ b) (2 ^ a)
      ∙ ap (λ m. rows u v * m) (sym (pow-add 2 b a) ∙ ap (λ k. 2 ^ k) (let e : b + a ≡ a + b = omega arith in e))

  pub in_place : bit_and (part x a * part y b % 2 ^ 64) (columns * 2 ^ (a + b)) ≡ rows (part x a) (part y b)
  in_place =
      ap (λ w. bit_and w (columns * 2 ^ (a + b))) numbers
      ∙ masked_times (u * v) columns (a + b)
      ∙ ap (λ w. w * 2 ^ (a + b)) kept_here
      ∙ sym polynomials

  pub one_on : (c : ℕ) → a + b ≡ 4 + c → bit_and (part x a * part y b % 2 ^ 64) (columns * 2 ^ c) ≡ rows (part x a) (part y b)
  one_on c e =
      ap (λ w. bit_and w (columns * 2 ^ c)) (numbers ∙ split (u * v))
      ∙ masked_times (u * v * 16) columns c
      ∙ ap (λ w. w * 2 ^ c) kept_next
      ∙ sym (polynomials ∙ split (rows u v))
    where
      split : (w : ℕ) → w * 2 ^ (a + b) ≡ w * 16 * 2 ^ c
      split w = ap (λ k. w * 2 ^ k) e ∙ ap (λ m. w * m) (pow-add 2 4 c) ∙ sym (mul_assoc w 16 (2 ^ c))
