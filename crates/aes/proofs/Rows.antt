-- The product modulo m of degree d as a sum of rows: the a_i times the remainders of x ^ i b.
use Rattle.std.proofs.Common.{◌≡◌, ℕ, zero, suc, ◌+◌, ◌*◌, ◌^◌, ◌<◌, ◌≤◌, bit_xor, sym, ap, ap₂, subst, ◌∙◌, arith, zero-mul, one-mul, mul_assoc, pow-add, lt_of_lt_of_le, pow_mono, ⊎_elim, mod-eq_of_lt}
use Rattle.std.specs.Int.{bit_at}
use Rattle.std.proofs.lemmas.Nat.{pow_pos, shl_below, pow_below}
use Rattle.aes.specs.Polynomial.{polynomial_sum, polynomial_product, polynomial_remainder}
use Rattle.aes.proofs.Xor.{polynomial_sum-lt, bit_cases, bits_sum}
use Rattle.aes.proofs.Polynomial.{polynomial_remainder-less, polynomial_remainder-shift, polynomial_product-rows}

-- the sum of the rows below i
abbrev pub rows_of : ℕ → ℕ → ℕ → ℕ
rows_of a b i = polynomial_sum (λ j. bit_at a j * (b * 2 ^ j)) i

pub row_below : (a b d k n : ℕ) → b < 2 ^ d → d + k ≤ suc n → rows_of a b k < 2 ^ n
row_below a b d k n h m = polynomial_sum-lt (λ j. bit_at a j * (b * 2 ^ j)) k n (λ j l.
    let small : b * 2 ^ j < 2 ^ n = lt_of_lt_of_le (shl_below b d j h) (pow_mono (let e : d + j ≤ n = omega arith in e)) in
    ⊎_elim (λ z. subst (λ x. x < 2 ^ n) (sym (ap (λ x. x * (b * 2 ^ j)) z ∙ zero-mul (b * 2 ^ j))) (pow_pos n))
    (λ o. subst (λ x. x < 2 ^ n) (sym (ap (λ x. x * (b * 2 ^ j)) o ∙ one-mul (b * 2 ^ j))) small) (bit_cases a j))

module _ (d m : ℕ) where
  abbrev pub rem_of : ℕ → ℕ
  rem_of p = polynomial_remainder d m d p

  pub next_power : (b i : ℕ) → b < 2 ^ d → i < d → polynomial_remainder d m 1 (rem_of (b * 2 ^ i) * 2 ^ 1) ≡ rem_of (b * 2 ^ (i + 1))
  next_power b i h l =
      let next : b * 2 ^ i * 2 ^ 1 ≡ b * 2 ^ (i + 1) = mul_assoc b (2 ^ i) (2 ^ 1) ∙ ap (λ x. b * x) (sym (pow-add 2 i 1)) in
      let small : b * 2 ^ (i + 1) < 2 ^ (d + d) = lt_of_lt_of_le (shl_below b d (i + 1) h) (pow_mono (let e : d + (i + 1) ≤ d + d = omega arith in e)) in
      sym (polynomial_remainder-shift d m d (b * 2 ^ i)) ∙ ap (polynomial_remainder d m (suc d)) next ∙ polynomial_remainder-less d m d (b * 2 ^ (i + 1)) small

pub rows_all : (e m a b : ℕ) → b < 2 ^ suc e → polynomial_remainder (suc e) m (suc e) (rows_of a b (suc e))
    ≡ polynomial_remainder (suc e) m e (polynomial_product (suc e) a b)
rows_all e m a b h =
    polynomial_remainder-less (suc e) m e (rows_of a b (suc e)) (row_below a b (suc e) (suc e) (suc e + e) h (omega arith))
    ∙ ap (polynomial_remainder (suc e) m e) (sym (polynomial_product-rows (suc e) a b h))

-- ---- linear functions of polynomials of degree below n, determined by the powers of x

abbrev pub LinearBelow : ℕ → (ℕ → ℕ) → Type 0
LinearBelow n f = (f 0 ≡ 0) × ((x y : ℕ) → x < 2 ^ n → y < 2 ^ n → f (bit_xor x y) ≡ bit_xor (f x) (f y))

same_sum : (n : ℕ) (f g : ℕ → ℕ) → LinearBelow n f → LinearBelow n g → (x k : ℕ) → k ≤ n → ((i : ℕ) → i < k → f (2 ^ i) ≡ g (2 ^ i))
    → f (polynomial_sum (λ i. bit_at x i * 2 ^ i) k) ≡ g (polynomial_sum (λ i. bit_at x i * 2 ^ i) k)
unfolding polynomial_sum
same_sum n f g lf lg x zero h e = lf.0 ∙ sym lg.0
same_sum n f g lf lg x (suc k) h e =
    let p = polynomial_sum (λ i. bit_at x i * 2 ^ i) k in
    let low : p < 2 ^ n = polynomial_sum-lt (λ i. bit_at x i * 2 ^ i) k n (λ i l. term_lt i (omega arith)) in
    let top : bit_at x k * 2 ^ k < 2 ^ n = term_lt k h in
    lf.1 p (bit_at x k * 2 ^ k) low top
    ∙ ap₂ bit_xor (same_sum n f g lf lg x k (omega arith) (λ i l. e i (omega arith))) same_term
    ∙ sym (lg.1 p (bit_at x k * 2 ^ k) low top)
  where
    term_lt : (i : ℕ) → i < n → bit_at x i * 2 ^ i < 2 ^ n
    term_lt i l =
        let p : 2 ^ i < 2 ^ n = pow_below i n l in
        ⊎_elim (λ z. subst (λ c. c < 2 ^ n) (sym (ap (λ c. c * 2 ^ i) z ∙ zero-mul (2 ^ i))) (pow_pos n))
        (λ o. subst (λ c. c < 2 ^ n) (sym (ap (λ c. c * 2 ^ i) o ∙ one-mul (2 ^ i))) p) (bit_cases x i)

    same_term : f (bit_at x k * 2 ^ k) ≡ g (bit_at x k * 2 ^ k)
    same_term =
        ⊎_elim (λ z. let s = ap (λ c. c * 2 ^ k) z ∙ zero-mul (2 ^ k) in ap f s ∙ lf.0 ∙ sym (ap g s ∙ lg.0))
        (λ o. let s = ap (λ c. c * 2 ^ k) o ∙ one-mul (2 ^ k) in ap f s ∙ e k (omega arith) ∙ sym (ap g s)) (bit_cases x k)

-- Two linear functions that agree on the powers of x are equal.
pub linear_agree : (n : ℕ) (f g : ℕ → ℕ) → LinearBelow n f → LinearBelow n g → ((i : ℕ) → i < n → f (2 ^ i) ≡ g (2 ^ i)) → (x : ℕ) → x < 2 ^ n → f x ≡ g x
linear_agree n f g lf lg e x h =
    let whole : polynomial_sum (λ i. bit_at x i * 2 ^ i) n ≡ x = bits_sum x n ∙ mod-eq_of_lt h in
    subst (λ y. f y ≡ g y) whole (same_sum n f g lf lg x n (omega arith) e)
