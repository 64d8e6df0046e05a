-- The product of 32 bits as the sum of the sixteen products of parts, in four columns.
use Rattle.std.proofs.Common.{◌≡◌, ℕ, ◌*◌, ◌%◌, ◌^◌, ◌<◌, bit_and, bit_xor, refl, sym, ap, ap₂, ◌∙◌, arith}
use Rattle.std.specs.Int.Bits.{xor_assoc, xor_comm}
use Rattle.std.proofs.lemmas.Nat.{and_le_l, xor_mod}
use Rattle.aes.specs.Polynomial.{polynomial_product}
use Rattle.aes.specs.PolynomialLaws.{IsLinear}
use Rattle.aes.proofs.Lemmas.{all_below, equal_below, xor_swap}
use Rattle.modes.proofs.Rows.{laws, rows, rows_left, rows_right, rows_product}
use Rattle.modes.proofs.Holes.{masked_linear, mask, columns, part, in_place, one_on}

-- ---- sums of four

abbrev four : ℕ → ℕ → ℕ → ℕ → ℕ
four a b c d = bit_xor (bit_xor (bit_xor a b) c) d

four-ap : {a b c d p q r s : ℕ} → a ≡ p → b ≡ q → c ≡ r → d ≡ s → four a b c d ≡ four p q r s
four-ap e f g h = ap₂ bit_xor (ap₂ bit_xor (ap₂ bit_xor e f) g) h

turned : (a b c d : ℕ) → four a b c d ≡ four d a b c
turned a b c d =
    xor_comm (bit_xor (bit_xor a b) c) d
    ∙ sym (xor_assoc d (bit_xor a b) c)
    ∙ ap (λ v. bit_xor v c) (sym (xor_assoc d a b))

pair : (a b c d p q r s : ℕ) → bit_xor (four a b c d) (four p q r s) ≡ four (bit_xor a p) (bit_xor b q) (bit_xor c r) (bit_xor d s)
pair a b c d p q r s =
    xor_swap (bit_xor (bit_xor a b) c) d (bit_xor (bit_xor p q) r) s
    ∙ ap (λ v. bit_xor v (bit_xor d s))
    (xor_swap (bit_xor a b) c (bit_xor p q) r ∙ ap (λ v. bit_xor v (bit_xor c r)) (xor_swap a b p q))

-- rows and columns may be exchanged
exchanged : (a b c d e f g h i j k l m n o p : ℕ) → four (four a b c d) (four e f g h) (four i j k l) (four m n o p)
    ≡ four (four a e i m) (four b f j n) (four c g k o) (four d h l p)
exchanged a b c d e f g h i j k l m n o p =
    ap (λ v. bit_xor (bit_xor v (four i j k l)) (four m n o p)) (pair a b c d e f g h)
    ∙ ap (λ v. bit_xor v (four m n o p)) (pair (bit_xor a e) (bit_xor b f) (bit_xor c g) (bit_xor d h) i j k l)
    ∙ pair (bit_xor (bit_xor a e) i) (bit_xor (bit_xor b f) j) (bit_xor (bit_xor c g) k) (bit_xor (bit_xor d h) l) m n o p

linear_four : (f : ℕ → ℕ) → IsLinear f → (a b c d : ℕ) → f (four a b c d) ≡ four (f a) (f b) (f c) (f d)
linear_four f l a b c d =
    l (bit_xor (bit_xor a b) c) d
    ∙ ap (λ v. bit_xor v (f d)) (l (bit_xor a b) c ∙ ap (λ v. bit_xor v (f c)) (l a b))

-- ---- the parts of x and y

abbrev parts : ℕ → ℕ
parts x = four (part x 0) (part x 1) (part x 2) (part x 3)

parts_linear : IsLinear parts
parts_linear a b =
    four-ap (masked_linear (mask * 2 ^ 0) a b) (masked_linear (mask * 2 ^ 1) a b) (masked_linear (mask * 2 ^ 2) a b) (masked_linear (mask * 2 ^ 3) a b)
    ∙ sym (pair (part a 0) (part a 1) (part a 2) (part a 3) (part b 0) (part b 1) (part b 2) (part b 3))

-- The parts add up to the first 32 bits, since they do for each power of x.
parts_are : (x : ℕ) → x < 2 ^ 64 → parts x ≡ x % 2 ^ 32
unfolding all_below
parts_are x h = laws.linear_agree parts (λ x. x % 2 ^ 32) 64 x parts_linear (λ a b. xor_mod a b 32)
    (λ i l. equal_below (λ i. parts (2 ^ i)) (λ i. 2 ^ i % 2 ^ 32) 64 i refl l) h

-- ---- the sixteen products

module _ (x y : ℕ) where
  abbrev at : ℕ → ℕ → ℕ
  at a b = rows (part x a) (part y b)

  abbrev times : ℕ → ℕ → ℕ
  times a b = part x a * part y b % 2 ^ 64

  column : (p q r s m : ℕ) → bit_and (four p q r s) m ≡ four (bit_and p m) (bit_and q m) (bit_and r m) (bit_and s m)
  column p q r s m = linear_four (λ v. bit_and v m) (masked_linear m) p q r s

  row_is : x < 2 ^ 64 → (a : ℕ) → four (at a 0) (at a 1) (at a 2) (at a 3) ≡ rows (part x a) (parts y)
  row_is h a =
      sym (linear_four (rows (part x a)) (rows_right (part x a) (omega (arith, h, and_le_l x (mask * 2 ^ a)))) (part y 0) (part y 1) (part y 2) (part y 3))

  pub columns_are : x < 2 ^ 64 → y < 2 ^ 64 → four
      (bit_and (four (times 0 0) (times 1 3) (times 2 2) (times 3 1)) (columns * 2 ^ 0))
      (bit_and (four (times 0 1) (times 1 0) (times 2 3) (times 3 2)) (columns * 2 ^ 1))
      (bit_and (four (times 0 2) (times 1 1) (times 2 0) (times 3 3)) (columns * 2 ^ 2))
      (bit_and (four (times 0 3) (times 1 2) (times 2 1) (times 3 0)) (columns * 2 ^ 3))
      ≡ polynomial_product 128 (x % 2 ^ 32) (y % 2 ^ 32)
  columns_are h g =
      four-ap
      (column (times 0 0) (times 1 3) (times 2 2) (times 3 1) (columns * 2 ^ 0)
      ∙ four-ap (in_place x y 0 0 (omega arith)) (one_on x y 1 3 (omega arith) 0 refl)
      (one_on x y 2 2 (omega arith) 0 refl) (one_on x y 3 1 (omega arith) 0 refl))
      (column (times 0 1) (times 1 0) (times 2 3) (times 3 2) (columns * 2 ^ 1)
      ∙ four-ap (in_place x y 0 1 (omega arith)) (in_place x y 1 0 (omega arith)) (one_on x y 2 3 (omega arith) 1 refl) (one_on x y 3 2 (omega arith) 1 refl))
      (column (times 0 2) (times 1 1) (times 2 0) (times 3 3) (columns * 2 ^ 2)
      ∙ four-ap (in_place x y 0 2 (omega arith)) (in_place x y 1 1 (omega arith)) (in_place x y 2 0 (omega arith)) (one_on x y 3 3 (omega arith) 2 refl))
      (column (times 0 3) (times 1 2) (times 2 1) (times 3 0) (columns * 2 ^ 3)
      ∙ four-ap (in_place x y 0 3 (omega arith)) (in_place x y 1 2 (omega arith)) (in_place x y 2 1 (omega arith)) (in_place x y 3 0 (omega arith)))
      ∙ exchanged (at 0 0) (at 1 3) (at 2 2) (at 3 1) (at 0 1) (at 1 0) (at 2 3) (at 3 2)
      (at 0 2) (at 1 1) (at 2 0) (at 3 3) (at 0 3) (at 1 2) (at 2 1) (at 3 0)
      ∙ four-ap
      (row_is h 0)
      (sym (turned (at 1 0) (at 1 1) (at 1 2) (at 1 3)) ∙ row_is h 1)
      (turned (at 2 2) (at 2 3) (at 2 0) (at 2 1) ∙ turned (at 2 1) (at 2 2) (at 2 3) (at 2 0) ∙ row_is h 2)
      (turned (at 3 1) (at 3 2) (at 3 3) (at 3 0) ∙ row_is h 3)
      ∙ sym (linear_four (λ a. rows a (parts y)) (rows_left (parts y)) (part x 0) (part x 1) (part x 2) (part x 3))
      ∙ ap₂ rows (parts_are x h) (parts_are y g)
      ∙ rows_product (x % 2 ^ 32) (y % 2 ^ 32) (omega arith)
