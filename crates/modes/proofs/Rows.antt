-- The product of two polynomials as the sum of its rows.
use Rattle.std.proofs.Common.{◌≡◌, ◌≢◌, ℕ, zero, suc, ◌+◌, ◌*◌, ◌^◌, ◌<◌, ◌≤◌, bit_xor, refl, sym, ap, ap₂, ⊎_elim, ◌∙◌, arith, zero-mul, one-mul, mul-one}
use Rattle.std.specs.Int.{bit_at}
use Rattle.std.specs.Int.Bits.{xor_self, xor_comm, xor_zero_r, xor_shifted}
use Rattle.std.proofs.Math.Nat.{mul_assoc}
use Rattle.std.proofs.lemmas.Bool.{cases_eq}
use Rattle.std.proofs.lemmas.Nat.{pow-add}
use Rattle.std.proofs.lemmas.Nat.Bits.{bit_at-pow_same, bit_at-pow_other}
use Rattle.aes.specs.Polynomial.{polynomial_sum, polynomial_product}
use Rattle.aes.specs.PolynomialLaws.{IsLinear, PolynomialLaws}
use Rattle.aes.proofs.Lemmas.{xor_swap, polynomial_laws, polynomial_product-rows, row_below}

pub laws : PolynomialLaws
laws = polynomial_laws

-- the sum of the rows a_j x ^ j b
pub rows : ℕ → ℕ → ℕ
rows a b = polynomial_sum (λ j. bit_at a j * (b * 2 ^ j)) 128

pub rows_product : (a b : ℕ) → b < 2 ^ 128 → rows a b ≡ polynomial_product 128 a b
unfolding rows
rows_product a b h = sym (polynomial_product-rows 128 a b h)

pub product_rows : (a b x y : ℕ) → y < 2 ^ 128 → a ≡ x → b ≡ y → polynomial_product 128 a b ≡ rows x y
product_rows a b x y h e g = ap₂ (polynomial_product 128) e g ∙ sym (rows_product x y h)

pub rows-lt : (a b : ℕ) → b < 2 ^ 128 → rows a b < 2 ^ 255
unfolding rows
rows-lt a b h = row_below a b 128 128 255 h (omega arith)

-- ---- a sum of one term

sum_none : (f : ℕ → ℕ) (n : ℕ) → ((j : ℕ) → j < n → f j ≡ 0) → polynomial_sum f n ≡ 0
unfolding polynomial_sum
sum_none f zero h = refl
sum_none f (suc n) h = ap₂ bit_xor (sum_none f n (λ j l. h j (omega (arith, l)))) (h n (omega arith))

pub sum_alone : (f : ℕ → ℕ) (n k : ℕ) → k < n → ((j : ℕ) → j < n → j ≢ k → f j ≡ 0) → polynomial_sum f n ≡ f k
unfolding polynomial_sum
sum_alone f zero k l h = absurd (omega arith)
sum_alone f (suc n) k l h = ⊎_elim
    (λ (e : n ≡ k).
    ap₂ bit_xor (sum_none f n (λ j m. h j (omega (arith, m)) (omega (arith, m, e)))) (ap f e)
    ∙ xor_comm 0 (f k)
    ∙ xor_zero_r (f k))
    (λ ne.
    ap₂ bit_xor (sum_alone f n k (omega (arith, l, ne)) (λ j m other. h j (omega (arith, m)) other)) (h n (omega arith) ne)
    ∙ xor_zero_r (f k))
    (cases_eq n k)

-- ---- the rows are determined by these two laws

pub rows_left : (b : ℕ) → IsLinear (λ a. rows a b)
unfolding rows
rows_left b p q =
    laws.sum_same _ (λ j. bit_xor (bit_at p j * (b * 2 ^ j)) (bit_at q j * (b * 2 ^ j))) 128 (λ j l. laws.coefficient_linear j (b * 2 ^ j) p q)
    ∙ laws.sum_of_sums (λ j. bit_at p j * (b * 2 ^ j)) (λ j. bit_at q j * (b * 2 ^ j)) 128

pub rows_power : (b i : ℕ) → i < 128 → rows (2 ^ i) b ≡ b * 2 ^ i
unfolding rows
rows_power b i l =
    sum_alone (λ j. bit_at (2 ^ i) j * (b * 2 ^ j)) 128 i l
    (λ j m ne. ap (λ c. c * (b * 2 ^ j)) (bit_at-pow_other i j ne) ∙ zero-mul (b * 2 ^ j))
    ∙ ap (λ c. c * (b * 2 ^ i)) (bit_at-pow_same i)
    ∙ one-mul (b * 2 ^ i)

-- What is linear in a and is x ^ i b at a = x ^ i is the product.
rows_are : (f : ℕ → ℕ) (n a b : ℕ) → n ≤ 128 → IsLinear f → ((i : ℕ) → i < n → f (2 ^ i) ≡ b * 2 ^ i) → a < 2 ^ n → f a ≡ rows a b
rows_are f n a b w is e h = laws.linear_agree f (λ a. rows a b) n a is (rows_left b) (λ i l. e i l ∙ sym (rows_power b i (omega (arith, l, w)))) h

-- ---- the other laws

pub rows_zero : (b : ℕ) → rows 0 b ≡ 0
rows_zero b = rows_left b 0 0 ∙ xor_self (rows 0 b)

pub rows_right : (a : ℕ) → a < 2 ^ 128 → IsLinear (rows a)
rows_right a h p q = sym (rows_are (λ a. bit_xor (rows a p) (rows a q)) 128 a (bit_xor p q) (omega arith)
    (λ u v. ap₂ bit_xor (rows_left p u v) (rows_left q u v) ∙ xor_swap (rows u p) (rows v p) (rows u q) (rows v q))
    (λ i l. ap₂ bit_xor (rows_power p i l) (rows_power q i l) ∙ sym (laws.power_linear i p q)) h)

pow_split : (b i k : ℕ) → b * 2 ^ (i + k) ≡ b * 2 ^ i * 2 ^ k
pow_split b i k = ap (λ p. b * p) (pow-add 2 i k) ∙ sym (mul_assoc b (2 ^ i) (2 ^ k))

pow_turned : (b i k : ℕ) → b * 2 ^ i * 2 ^ k ≡ b * 2 ^ k * 2 ^ i
pow_turned b i k = sym (pow_split b i k) ∙ ap (λ n. b * 2 ^ n) (let e : i + k ≡ k + i = omega arith in e) ∙ pow_split b k i

pub rows_right_times : (a b k : ℕ) → a < 2 ^ 128 → rows a (b * 2 ^ k) ≡ rows a b * 2 ^ k
rows_right_times a b k h = sym (rows_are (λ a. rows a b * 2 ^ k) 128 a (b * 2 ^ k) (omega arith)
    (λ u v. ap (λ r. r * 2 ^ k) (rows_left b u v) ∙ laws.power_linear k (rows u b) (rows v b))
    (λ i l. ap (λ r. r * 2 ^ k) (rows_power b i l) ∙ pow_turned b i k) h)

pub rows_left_times : (a b k n : ℕ) → n + k ≤ 128 → a < 2 ^ n → rows (a * 2 ^ k) b ≡ rows a b * 2 ^ k
rows_left_times a b k n w h = laws.linear_agree (λ a. rows (a * 2 ^ k) b) (λ a. rows a b * 2 ^ k) n a
    (λ u v. ap (λ r. rows r b) (laws.power_linear k u v) ∙ rows_left b (u * 2 ^ k) (v * 2 ^ k))
    (λ u v. ap (λ r. r * 2 ^ k) (rows_left b u v) ∙ laws.power_linear k (rows u b) (rows v b))
    (λ i l.
    ap (λ r. rows r b) (sym (pow-add 2 i k))
    ∙ rows_power b (i + k) (omega (arith, l, w))
    ∙ pow_split b i k
    ∙ ap (λ r. r * 2 ^ k) (sym (rows_power b i (omega (arith, l, w)))))
    h

-- One digit more: Horner's rule in base 16, where the digit is 0 or 1.
rows_bit : (a b : ℕ) → a ≤ 1 → rows a b ≡ a * b
rows_bit zero b h = rows_zero b ∙ sym (zero-mul b)
rows_bit (suc zero) b h = rows_power b 0 (omega arith) ∙ mul-one b ∙ sym (one-mul b)
rows_bit (suc (suc a)) b h = absurd (omega (arith, h))

pub rows_digit : (p d b : ℕ) → p < 2 ^ 124 → d ≤ 1 → rows (p * 16 + d) b ≡ bit_xor (rows p b * 16) (d * b)
rows_digit p d b h l =
    ap (λ v. rows v b) (sym (xor_shifted p 4 d (omega (arith, l))))
    ∙ rows_left b (p * 16) d
    ∙ ap₂ bit_xor (rows_left_times p b 4 124 (omega arith) h) (rows_bit d b l)
