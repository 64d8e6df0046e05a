-- The product of octets: the steps that compute it, and that it is linear.
use Rattle.std.proofs.Common.{◌≡◌, ℕ, zero, suc, ◌+◌, ◌*◌, ◌^◌, ◌/◌, ◌%◌, ◌<◌, ◌≤◌, ◌⊎◌, cond, ◌==◌, bit_and, bit_xor, refl, sym, ap, ap₂, subst, ◌∙◌, arith, zero-mul, one-mul, mul_assoc, mul-one, mul-zero, pow-add, eq-eqb, ne_eqb, ltb-true, nat_lt, ⊎_elim}
use Rattle.std.proofs.lemmas.Bool.{cond-true, cond-false}
use Rattle.std.specs.Int.{bit_at}
use Rattle.std.proofs.lemmas.Nat.{shl_below}
use Rattle.std.proofs.lemmas.Nat.Bits.{bit_at-suc, bit_at_lowest}
use Rattle.aes.specs.Polynomial.{polynomial_sum, polynomial_remainder}
use Rattle.aes.specs.Octet.{octet_product}
use Rattle.aes.proofs.Xor.{xor_assoc, xor_zero_l, xor_zero_r, xor_lt, xor_times_pow, polynomial_sum-ext, polynomial_sum-lt, polynomial_sum-map, polynomial_sum-xor, polynomial_sum-zero, bit_cases}
use Rattle.aes.proofs.Polynomial.{polynomial_remainder-xor, polynomial_remainder-less, polynomial_remainder-shift, polynomial_remainder-zero, polynomial_remainder-small}
use Rattle.aes.proofs.Rows.{rows_of, row_below, rem_of, rows_all}
use Rattle.aes.proofs.Below.{all_below, all_below_at, equal_below}

abbrev pub rem : ℕ → ℕ
rem p = rem_of 8 0x11b p

pub all_rows : (a b : ℕ) → b < 256 → rem (rows_of a b 8) ≡ octet_product a b
unfolding octet_product
all_rows a b h = rows_all 7 0x11b a b h

-- ---- the product by Horner's steps, which is fast to compute

-- the product by x
unfoldable pub x_times : ℕ → ℕ
x_times a = polynomial_remainder 8 0x11b 1 (a * 2 ^ 1)

unfoldable pub quick : ℕ → ℕ → ℕ → ℕ
quick zero a b = 0
quick (suc k) a b = bit_xor (a % 2 * b) (x_times (quick k (a / 2) b))

polynomial_sum-front : (f : ℕ → ℕ) (n : ℕ) → polynomial_sum f (suc n) ≡ bit_xor (f 0) (polynomial_sum (λ i. f (suc i)) n)
unfolding polynomial_sum
polynomial_sum-front f zero = xor_zero_l (f 0) ∙ sym (xor_zero_r (f 0))
polynomial_sum-front f (suc n) = ap (λ x. bit_xor x (f (suc n))) (polynomial_sum-front f n) ∙ xor_assoc (f 0) (polynomial_sum (λ i. f (suc i)) n) (f (suc n))

rows-front : (a b k : ℕ) → rows_of a b (suc k) ≡ bit_xor (a % 2 * b) (rows_of (a / 2) b k * 2 ^ 1)
rows-front a b k =
    polynomial_sum-front (λ j. bit_at a j * (b * 2 ^ j)) k
    ∙ ap₂ bit_xor (ap₂ (λ x y. x * y) (bit_at_lowest a) (mul-one b))
    (polynomial_sum-ext (λ j. bit_at a (suc j) * (b * 2 ^ suc j)) (λ j. bit_at (a / 2) j * (b * 2 ^ j) * 2 ^ 1) k
    (λ j l. ap₂ (λ x y. x * y) (bit_at-suc a j) (ap (λ i. b * 2 ^ i) (let e : suc j ≡ j + 1 = omega arith in e) ∙ ap (λ x. b * x) (pow-add 2 j 1)
    ∙ sym (mul_assoc b (2 ^ j) (2 ^ 1))) ∙ sym (mul_assoc (bit_at (a / 2) j) (b * 2 ^ j) (2 ^ 1)))
    ∙ sym (polynomial_sum-map (λ x. x * 2 ^ 1) (zero-mul (2 ^ 1)) (λ x y. sym (xor_times_pow x y 1)) (λ j. bit_at (a / 2) j * (b * 2 ^ j)) k))

-- The multiple of an octet by a bit is an octet.
bit_times-lt : (a b : ℕ) → b < 256 → a % 2 * b < 256
bit_times-lt a b h = ⊎_elim
    (λ z. subst (λ x. x * b < 256) (sym (sym (bit_at_lowest a) ∙ z)) (subst (λ x. x < 256) (sym (zero-mul b)) (omega arith)))
    (λ o. subst (λ x. x * b < 256) (sym (sym (bit_at_lowest a) ∙ o)) (subst (λ x. x < 256) (sym (one-mul b)) h)) (bit_cases a 0)

quick-rows : (k a b : ℕ) → k ≤ 8 → b < 256 → quick k a b ≡ rem (rows_of a b k)
unfolding quick x_times polynomial_sum
quick-rows zero a b h l = sym (polynomial_remainder-zero 8 0x11b 8)
quick-rows (suc k) a b h l =
    let under : rows_of (a / 2) b k < 2 ^ 15 = row_below (a / 2) b 8 k 15 l (omega arith) in
    let twice : rows_of (a / 2) b k * 2 ^ 1 < 2 ^ (8 + 8) = shl_below (rows_of (a / 2) b k) 15 1 under in
    ap₂ bit_xor (sym (polynomial_remainder-small 8 0x11b 8 (a % 2 * b) (bit_times-lt a b l)))
    (ap x_times (quick-rows k (a / 2) b (omega arith) l) ∙ sym (polynomial_remainder-shift 8 0x11b 8 (rows_of (a / 2) b k))
    ∙ polynomial_remainder-less 8 0x11b 8 (rows_of (a / 2) b k * 2 ^ 1) twice)
    ∙ sym (polynomial_remainder-xor 8 0x11b 8 (a % 2 * b) (rows_of (a / 2) b k * 2 ^ 1))
    ∙ ap rem (sym (rows-front a b k))

pub quick_is : (a b : ℕ) → b < 256 → octet_product a b ≡ quick 8 a b
quick_is a b l = sym (quick-rows 8 a b (omega arith) l ∙ all_rows a b l)

-- ---- the product is an octet and linear

x_times-lt : (a : ℕ) → a < 256 → x_times a < 256
unfolding all_below x_times polynomial_remainder
x_times-lt a h = ltb-true (x_times a) 256 (all_below_at (λ x. nat_lt (x_times x) 256) 256 a refl h)

pub quick-lt : (k a b : ℕ) → b < 256 → quick k a b < 256
unfolding quick
quick-lt zero a b h = omega arith
quick-lt (suc k) a b h = xor_lt 8 (a % 2 * b) (x_times (quick k (a / 2) b)) (bit_times-lt a b h) (x_times-lt (quick k (a / 2) b) (quick-lt k (a / 2) b h))

pub octet_product-lt : (a b : ℕ) → b < 256 → octet_product a b < 256
octet_product-lt a b h = subst (λ x. x < 256) (sym (quick_is a b h)) (quick-lt 8 a b h)

pub octet_product-xor : (a x y : ℕ) → x < 256 → y < 256 → octet_product a (bit_xor x y) ≡ bit_xor (octet_product a x) (octet_product a y)
octet_product-xor a x y h k =
    sym (all_rows a (bit_xor x y) (xor_lt 8 x y h k))
    ∙ ap rem
    (polynomial_sum-ext (λ j. bit_at a j * (bit_xor x y * 2 ^ j)) (λ j. bit_xor (bit_at a j * (x * 2 ^ j)) (bit_at a j * (y * 2 ^ j))) 8
    (λ j l. ap (λ z. bit_at a j * z) (sym (xor_times_pow x y j)) ∙ times_bit (bit_at a j) (x * 2 ^ j) (y * 2 ^ j) (bit_cases a j))
    ∙ polynomial_sum-xor (λ j. bit_at a j * (x * 2 ^ j)) (λ j. bit_at a j * (y * 2 ^ j)) 8)
    ∙ polynomial_remainder-xor 8 0x11b 8 (rows_of a x 8) (rows_of a y 8)
    ∙ ap₂ bit_xor (all_rows a x h) (all_rows a y k)
  where
    times_bit : (b u v : ℕ) → (b ≡ zero) ⊎ (b ≡ 1) → b * bit_xor u v ≡ bit_xor (b * u) (b * v)
    times_bit b u v s = ⊎_elim
        (λ z. ap (λ c. c * bit_xor u v) z ∙ zero-mul (bit_xor u v) ∙ sym (ap₂ bit_xor (ap (λ c. c * u) z ∙ zero-mul u) (ap (λ c. c * v) z ∙ zero-mul v)))
        (λ o. ap (λ c. c * bit_xor u v) o ∙ one-mul (bit_xor u v) ∙ sym (ap₂ bit_xor (ap (λ c. c * u) o ∙ one-mul u) (ap (λ c. c * v) o ∙ one-mul v))) s

pub octet_product-zero : (a : ℕ) → octet_product a 0 ≡ 0
octet_product-zero a = sym (all_rows a 0 (omega arith))
    ∙ ap rem (polynomial_sum-ext (λ j. bit_at a j * (0 * 2 ^ j)) (λ j. 0) 8 (λ j l. ap (λ x. bit_at a j * x) (zero-mul (2 ^ j)) ∙ mul-zero (bit_at a j))
    ∙ polynomial_sum-zero 8) ∙ polynomial_remainder-zero 8 0x11b 8

-- The product with a sum of octets is the sum of the products.
pub octet_product-sum : (a : ℕ) (f : ℕ → ℕ) (n : ℕ) → ((i : ℕ) → i < n → f i < 256)
    → octet_product a (polynomial_sum f n) ≡ polynomial_sum (λ i. octet_product a (f i)) n
unfolding polynomial_sum
octet_product-sum a f zero h = octet_product-zero a
octet_product-sum a f (suc n) h =
    octet_product-xor a (polynomial_sum f n) (f n) (polynomial_sum-lt f n 8 (λ i l. h i (omega arith))) (h n (omega arith))
    ∙ ap (λ x. bit_xor x (octet_product a (f n))) (octet_product-sum a f n (λ i l. h i (omega arith)))

-- ---- the steps of the code

-- x times a, as the code computes it
abbrev pub doubled : ℕ → ℕ
doubled a = cond (bit_and a 128 == 0) (bit_and a 127 * 2 % 256) (bit_xor (bit_and a 127 * 2 % 256) 27)

doubled_is : (a : ℕ) → a < 256 → doubled a ≡ octet_product 2 a
unfolding quick x_times polynomial_remainder all_below
doubled_is a h = equal_below doubled (quick 8 2) 256 a refl h ∙ sym (quick_is 2 a h)

pub doubled_low : (a : ℕ) → a < 256 → bit_and a 128 ≡ 0 → bit_and a 127 * 2 % 256 ≡ octet_product 2 a
doubled_low a h z = sym (cond-true (bit_and a 128 == 0) (bit_and a 127 * 2 % 256) (bit_xor (bit_and a 127 * 2 % 256) 27) (eq-eqb (bit_and a 128) 0 z))
    ∙ doubled_is a h

pub doubled_high : (a : ℕ) → a < 256 → (bit_and a 128 ≡ 0 → ⊥) → bit_xor (bit_and a 127 * 2 % 256) 27 ≡ octet_product 2 a
doubled_high a h z = sym (cond-false (bit_and a 128 == 0) (bit_and a 127 * 2 % 256) (bit_xor (bit_and a 127 * 2 % 256) 27) (ne_eqb (bit_and a 128) 0 z))
    ∙ doubled_is a h
