-- The remainder has a lower degree and differs by a multiple. Only one polynomial has both properties.
use Rattle.std.proofs.Common.{◌≡◌, ◌≢◌, ℕ, zero, suc, ◌+◌, ◌*◌, ◌%◌, ◌^◌, ◌<◌, ◌≤◌, bit_xor, sym, ap, ap₂, subst, ◌∙◌, arith, ◌⊎◌, inl, inr, ⊎_elim, mod-eq_of_lt, zero-mul, one-mul, pow-add}
use Rattle.std.specs.Int.{bit_at}
use Rattle.std.proofs.Math.Nat.{mul-lt-mul_of_pos_right}
use Rattle.std.proofs.Math.Pow.{pow_mono}
use Rattle.std.proofs.lemmas.Bool.{cases_eq}
use Rattle.std.proofs.lemmas.Nat.{pow_pos, pow_below, mod-pow-add, mod_below}
use Rattle.std.proofs.lemmas.Nat.Bits.{bit_at_above, bit_at_xor, bit_at-lt, bit_at-zero, bit_at-pow_same, bit_at-pow_other}
use Rattle.aes.specs.Polynomial.{polynomial_sum, polynomial_remainder}
use Rattle.aes.specs.Remainder.{IsOfDegree, IsMultiple, IsRemainder}
use Rattle.aes.proofs.Xor.{xor_comm, xor_assoc, xor_lt, xor_self, xor_swap, xor_twice, xor_zero_l, xor_zero_r, bit_times-xor, bit_at-shifted, bit_cases, polynomial_sum-ext, polynomial_sum-xor, polynomial_sum-map, polynomial_sum-zero}
use Rattle.aes.proofs.Polynomial.{no_step, polynomial_remainder-xor, polynomial_remainder-small, polynomial_remainder-zero, polynomial_product-rows}

-- A number below 2 ^ (n + 1) whose bit n is 0 is below 2 ^ n.
no_top : (x n : ℕ) → x < 2 ^ suc n → bit_at x n ≡ 0 → x < 2 ^ n
no_top x n h z =
    let more : 2 ^ suc n ≡ 2 ^ (1 + n) = ap (λ k. 2 ^ k) (let e : suc n ≡ 1 + n = omega arith in e) in
    let all : x % 2 ^ (1 + n) ≡ x = mod-eq_of_lt (subst (λ k. x < k) more h) in
    let is : x ≡ x % 2 ^ n = sym all ∙ mod-pow-add x 1 n ∙ ap (λ b. b * 2 ^ n + x % 2 ^ n) z ∙ (let e : 0 * 2 ^ n + x % 2 ^ n ≡ x % 2 ^ n = omega arith in e) in
    subst (λ v. v < 2 ^ n) (sym is) (mod_below x (2 ^ n) (pow_pos n))

-- ---- the product of q and m, as a sum of rows

abbrev rows : ℕ → ℕ → ℕ → ℕ
rows m q n = polynomial_sum (λ i. bit_at q i * (m * 2 ^ i)) n

rows_xor : (m p q n : ℕ) → rows m (bit_xor p q) n ≡ bit_xor (rows m p n) (rows m q n)
rows_xor m p q n =
    polynomial_sum-ext (λ i. bit_at (bit_xor p q) i * (m * 2 ^ i)) (λ i. bit_xor (bit_at p i * (m * 2 ^ i)) (bit_at q i * (m * 2 ^ i))) n
    (λ i l. ap (λ b. b * (m * 2 ^ i)) (bit_at_xor p q i) ∙ bit_times-xor (bit_at p i) (bit_at q i) (m * 2 ^ i) (bit_at-lt p i) (bit_at-lt q i))
    ∙ polynomial_sum-xor (λ i. bit_at p i * (m * 2 ^ i)) (λ i. bit_at q i * (m * 2 ^ i)) n

rows_zero : (m n : ℕ) → rows m 0 n ≡ 0
rows_zero m n =
    polynomial_sum-ext (λ i. bit_at 0 i * (m * 2 ^ i)) (λ i. 0) n (λ i l. ap (λ b. b * (m * 2 ^ i)) (bit_at-zero i) ∙ zero-mul (m * 2 ^ i))
    ∙ polynomial_sum-zero n

rows_power : (m k n : ℕ) → k < n → rows m (2 ^ k) n ≡ m * 2 ^ k
unfolding polynomial_sum
rows_power m k zero l = absurd (omega arith)
rows_power m k (suc n) l = ⊎_elim
    (λ (s : k ≡ n).
    ap₂ bit_xor
    (polynomial_sum-ext (λ i. bit_at (2 ^ k) i * (m * 2 ^ i)) (λ i. 0) n
    (λ i j. ap (λ b. b * (m * 2 ^ i)) (bit_at-pow_other k i (λ e. omega (arith, e, j, s))) ∙ zero-mul (m * 2 ^ i))
    ∙ polynomial_sum-zero n)
    (ap (λ i. bit_at (2 ^ k) i * (m * 2 ^ i)) (sym s) ∙ ap (λ b. b * (m * 2 ^ k)) (bit_at-pow_same k) ∙ one-mul (m * 2 ^ k))
    ∙ xor_zero_l (m * 2 ^ k))
    (λ (ne : k ≢ n).
    ap₂ bit_xor
    (rows_power m k n (omega (arith, ne, l)))
    (ap (λ b. b * (m * 2 ^ n)) (bit_at-pow_other k n (λ e. ne (sym e))) ∙ zero-mul (m * 2 ^ n))
    ∙ xor_zero_r (m * 2 ^ k))
    (cases_eq k n)

rows_one : (m b k n : ℕ) → (b ≡ 0) ⊎ (b ≡ 1) → k < n → rows m (b * 2 ^ k) n ≡ b * (m * 2 ^ k)
rows_one m b k n (inl z) l =
    ap (λ c. rows m (c * 2 ^ k) n) z ∙ ap (λ q. rows m q n) (zero-mul (2 ^ k)) ∙ rows_zero m n ∙ sym (ap (λ c. c * (m * 2 ^ k)) z ∙ zero-mul (m * 2 ^ k))
rows_one m b k n (inr o) l =
    ap (λ c. rows m (c * 2 ^ k) n) o ∙ ap (λ q. rows m q n) (one-mul (2 ^ k)) ∙ rows_power m k n l ∙ sym (ap (λ c. c * (m * 2 ^ k)) o ∙ one-mul (m * 2 ^ k))

module _ (d m : ℕ) (degree : IsOfDegree d m) where
  shifted_lt : (k : ℕ) → m * 2 ^ k < 2 ^ suc (d + k)
  shifted_lt k =
      subst (λ v. m * 2 ^ k < v) (sym (pow-add 2 (suc d) k) ∙ ap (λ j. 2 ^ j) (let e : suc d + k ≡ suc (d + k) = omega arith in e))
      (mul-lt-mul_of_pos_right degree.below (pow_pos k))

  shifted_top : (k : ℕ) → bit_at (m * 2 ^ k) (d + k) ≡ 1
  shifted_top k = ap (bit_at (m * 2 ^ k)) (let e : d + k ≡ k + d = omega arith in e) ∙ bit_at-shifted m k d ∙ degree.leading

  -- ---- the degree of the remainder

  step : ℕ → ℕ → ℕ
  step k p = bit_xor p (bit_at p (d + k) * (m * 2 ^ k))

  step_lt : (k p : ℕ) → p < 2 ^ suc (d + k) → (bit_at p (d + k) ≡ 0) ⊎ (bit_at p (d + k) ≡ 1) → step k p < 2 ^ (d + k)
  unfolding step
  step_lt k p h (inl z) = subst (λ v. v < 2 ^ (d + k)) (sym (no_step p (bit_at p (d + k)) (m * 2 ^ k) z)) (no_top p (d + k) h z)
  step_lt k p h (inr o) =
      subst (λ v. v < 2 ^ (d + k)) (sym (ap (λ b. bit_xor p (b * (m * 2 ^ k))) o ∙ ap (bit_xor p) (one-mul (m * 2 ^ k))))
      (no_top (bit_xor p (m * 2 ^ k)) (d + k) (xor_lt (suc (d + k)) p (m * 2 ^ k) h (shifted_lt k))
      (bit_at_xor p (m * 2 ^ k) (d + k) ∙ ap₂ (λ a b. (a + b) % 2) o (shifted_top k)))

  pub remainder_lower : (k p : ℕ) → p < 2 ^ (d + k) → polynomial_remainder d m k p < 2 ^ d
  unfolding polynomial_remainder step
  remainder_lower zero p h = subst (λ j. p < 2 ^ j) (let e : d + 0 ≡ d = omega arith in e) h
  remainder_lower (suc k) p h =
      remainder_lower k (step k p) (step_lt k p (subst (λ j. p < 2 ^ j) (let e : d + suc k ≡ suc (d + k) = omega arith in e) h) (bit_cases p (d + k)))

  -- ---- the quotient

  quotient : ℕ → ℕ → ℕ
  quotient zero p = 0
  quotient (suc k) p = bit_xor (quotient k (step k p)) (bit_at p (d + k) * 2 ^ k)

  quotient_lt : (k n p : ℕ) → k ≤ n → quotient k p < 2 ^ n
  unfolding quotient
  quotient_lt zero n p l = pow_pos n
  quotient_lt (suc k) n p l =
      xor_lt n (quotient k (step k p)) (bit_at p (d + k) * 2 ^ k) (quotient_lt k n (step k p) (omega (arith, l)))
      (digit_below (bit_at p (d + k)) (bit_cases p (d + k)))
    where
      digit_below : (b : ℕ) → (b ≡ 0) ⊎ (b ≡ 1) → b * 2 ^ k < 2 ^ n
      digit_below b (inl z) = subst (λ v. v < 2 ^ n) (sym (ap (λ c. c * 2 ^ k) z ∙ zero-mul (2 ^ k))) (pow_pos n)
      digit_below b (inr o) = subst (λ v. v < 2 ^ n) (sym (ap (λ c. c * 2 ^ k) o ∙ one-mul (2 ^ k))) (pow_below k n (omega (arith, l)))

  -- The last two terms of a sum may be exchanged.
  turn : (a t r : ℕ) → bit_xor (bit_xor a t) r ≡ bit_xor (bit_xor a r) t
  turn a t r = xor_assoc a t r ∙ ap (bit_xor a) (xor_comm t r) ∙ sym (xor_assoc a r t)

  differs_by_rows : (k n p : ℕ) → k ≤ n → bit_xor p (polynomial_remainder d m k p) ≡ rows m (quotient k p) n
  unfolding polynomial_remainder quotient step
  differs_by_rows zero n p l = xor_self p ∙ sym (rows_zero m n)
  differs_by_rows (suc k) n p l =
      let b = bit_at p (d + k) in
      let t = b * (m * 2 ^ k) in
      let r = polynomial_remainder d m k (bit_xor p t) in
      ap (λ x. bit_xor x r) (sym (xor_twice p t))
      ∙ turn (bit_xor p t) t r
      ∙ ap₂ bit_xor (differs_by_rows k n (bit_xor p t) (omega (arith, l))) (sym (rows_one m b k n (bit_cases p (d + k)) (omega (arith, l))))
      ∙ sym (rows_xor m (quotient k (bit_xor p t)) (b * 2 ^ k) n)

  pub remainder_is : (k p : ℕ) → p < 2 ^ (d + k) → IsRemainder d m p (polynomial_remainder d m k p)
  remainder_is k p h =
      let n = suc d + k in
      let fits : m < 2 ^ n = omega (arith, degree.below, pow_mono {i = suc d} {j = n} (let e : suc d ≤ suc d + k = omega arith in e)) in
      record {
        lower = remainder_lower k p h;
        multiple = record {
          n = n;
          quotient = quotient k p;
          quotient_fits = quotient_lt k n p (let e : k ≤ suc d + k = omega arith in e);
          fits = fits;
          is_product = polynomial_product-rows n (quotient k p) m fits ∙ sym (differs_by_rows k n p (let e : k ≤ suc d + k = omega arith in e));
        };
      }

  -- ---- the remainder of a multiple is 0

  of_shifted : (k i : ℕ) → i < k → polynomial_remainder d m k (m * 2 ^ i) ≡ 0
  unfolding polynomial_remainder
  of_shifted zero i l = absurd (omega arith)
  of_shifted (suc k) i l = ⊎_elim
      (λ (s : i ≡ k).
      ap (λ j. polynomial_remainder d m k (bit_xor (m * 2 ^ j) (bit_at (m * 2 ^ j) (d + k) * (m * 2 ^ k)))) s
      ∙ ap (λ b. polynomial_remainder d m k (bit_xor (m * 2 ^ k) (b * (m * 2 ^ k)))) (shifted_top k)
      ∙ ap (λ x. polynomial_remainder d m k (bit_xor (m * 2 ^ k) x)) (one-mul (m * 2 ^ k))
      ∙ ap (polynomial_remainder d m k) (xor_self (m * 2 ^ k))
      ∙ polynomial_remainder-zero d m k)
      (λ (ne : i ≢ k).
      ap (polynomial_remainder d m k)
      (no_step (m * 2 ^ i) (bit_at (m * 2 ^ i) (d + k)) (m * 2 ^ k) (bit_at_above (m * 2 ^ i) (suc (d + i)) (d + k) (shifted_lt i) (omega (arith, ne, l))))
      ∙ of_shifted k i (omega (arith, ne, l)))
      (cases_eq i k)

  of_digit : (b k i : ℕ) → (b ≡ 0) ⊎ (b ≡ 1) → i < k → polynomial_remainder d m k (b * (m * 2 ^ i)) ≡ 0
  of_digit b k i (inl z) l = ap (λ c. polynomial_remainder d m k (c * (m * 2 ^ i))) z ∙ ap (polynomial_remainder d m k) (zero-mul (m * 2 ^ i))
      ∙ polynomial_remainder-zero d m k
  of_digit b k i (inr o) l = ap (λ c. polynomial_remainder d m k (c * (m * 2 ^ i))) o ∙ ap (polynomial_remainder d m k) (one-mul (m * 2 ^ i)) ∙ of_shifted k i l

  of_multiple : (k p : ℕ) (x : IsMultiple m p) → x.n ≤ k → polynomial_remainder d m k p ≡ 0
  of_multiple k p x l =
      ap (polynomial_remainder d m k) (sym x.is_product ∙ polynomial_product-rows x.n x.quotient m x.fits)
      ∙ polynomial_sum-map (polynomial_remainder d m k) (polynomial_remainder-zero d m k) (polynomial_remainder-xor d m k)
      (λ i. bit_at x.quotient i * (m * 2 ^ i)) x.n
      ∙ polynomial_sum-ext (λ i. polynomial_remainder d m k (bit_at x.quotient i * (m * 2 ^ i))) (λ i. 0) x.n
      (λ i j. of_digit (bit_at x.quotient i) k i (bit_cases x.quotient i) (omega (arith, j, l)))
      ∙ polynomial_sum-zero x.n

  pub one_remainder : (p r s : ℕ) → IsRemainder d m p r → IsRemainder d m p s → r ≡ s
  one_remainder p r s x y =
      let k = x.multiple.n + y.multiple.n in
      let both : bit_xor (bit_xor p r) (bit_xor p s) ≡ bit_xor r s =
      xor_swap p r p s ∙ ap (λ v. bit_xor v (bit_xor r s)) (xor_self p) ∙ xor_zero_l (bit_xor r s) in
      let none : bit_xor r s ≡ 0 =
      sym (polynomial_remainder-small d m k (bit_xor r s) (xor_lt d r s x.lower y.lower))
      ∙ ap (polynomial_remainder d m k) (sym both)
      ∙ polynomial_remainder-xor d m k (bit_xor p r) (bit_xor p s)
      ∙ ap₂ bit_xor (of_multiple k (bit_xor p r) x.multiple (let e : x.multiple.n ≤ k = omega arith in e))
      (of_multiple k (bit_xor p s) y.multiple (let e : y.multiple.n ≤ k = omega arith in e)) in
      sym (xor_twice r s) ∙ ap (λ v. bit_xor v s) none ∙ xor_zero_l s
