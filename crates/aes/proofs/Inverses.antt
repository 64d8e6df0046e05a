-- The power 254 is the inverse, and there is no other inverse.
use Rattle.std.proofs.Common.{◌≡◌, ◌≢◌, ℕ, zero, suc, ◌^◌, ◌<◌, ◌≤◌, ◌==◌, ◌&&◌, ◌↔◌, Bool, true, false, cond, refl, sym, ap, subst, ◌∙◌, arith, eqb-true, eq-eqb}
use Rattle.std.proofs.lemmas.Bool.{and_parts}
use Rattle.std.proofs.lemmas.Nat.{pow_below}
use Rattle.aes.specs.Polynomial.{polynomial_remainder}
use Rattle.aes.specs.Octet.{octet_product, inverse_below, octet_inverse}
use Rattle.aes.proofs.Rows.{linear_agree}
use Rattle.aes.proofs.Products.{x_times, quick, quick_is, quick-lt, octet_product-lt, octet_product-xor, octet_product-zero}
use Rattle.aes.proofs.Below.{all_below, all_below_at, equal_below}

-- ---- the power, as it is computed

abbrev pub quick_square : ℕ → ℕ
quick_square p = quick 8 p p

-- the product times p ^ 2 ^ 1, .., p ^ 2 ^ n
unfoldable pub quick_powers : ℕ → ℕ → ℕ → ℕ
quick_powers zero p product = product
quick_powers (suc n) p product = let s = quick_square p in quick_powers n s (quick 8 product s)

abbrev pub power : ℕ → ℕ
power x = quick_powers 7 x 1

quick_powers-lt : (n p product : ℕ) → p < 256 → product < 256 → quick_powers n p product < 256
unfolding quick_powers
quick_powers-lt zero p product h l = l
quick_powers-lt (suc n) p product h l =
    let s : quick_square p < 256 = quick-lt 8 p p h in
    quick_powers-lt n (quick_square p) (quick 8 product (quick_square p)) s (quick-lt 8 product (quick_square p) s)

pub power-lt : (x : ℕ) → x < 256 → power x < 256
power-lt x h = quick_powers-lt 7 x 1 h (omega arith)

-- ---- the inverse undoes the product

-- y undoes the product by x on the eight powers of x
unfoldable pub undoes : ℕ → ℕ → Bool
undoes y x = all_below (λ i. quick 8 y (quick 8 x (2 ^ i)) == 2 ^ i) 8

unfoldable pub is_inverse : ℕ → ℕ → Bool
is_inverse y x = (quick 8 x y == 1) && undoes y x

inverses : (x : ℕ) → x < 255 → is_inverse (power (suc x)) (suc x) ≡ true
unfolding quick quick_powers x_times polynomial_remainder all_below undoes is_inverse
inverses x h = all_below_at (λ x. is_inverse (power (suc x)) (suc x)) 255 x refl h

times_one : (x : ℕ) → x < 256 → octet_product x 1 ≡ x
unfolding quick x_times polynomial_remainder all_below
times_one x h = quick_is x 1 (omega arith) ∙ equal_below (λ x. quick 8 x 1) (λ x. x) 256 x refl h

times_power : (x : ℕ) → suc x < 256 → octet_product (suc x) (power (suc x)) ≡ 1
unfolding is_inverse
times_power x h =
    quick_is (suc x) (power (suc x)) (power-lt (suc x) h)
    ∙ eqb-true (quick 8 (suc x) (power (suc x))) 1 (and_parts (quick 8 (suc x) (power (suc x)) == 1) (undoes (power (suc x)) (suc x))
    (inverses x (omega arith))).0

power_undoes : (x n : ℕ) → suc x < 256 → n < 256 → octet_product (power (suc x)) (octet_product (suc x) n) ≡ n
unfolding is_inverse undoes
power_undoes x n h l = linear_agree 8 (λ n. octet_product y (octet_product (suc x) n)) (λ n. n) (
  ap (octet_product y) (octet_product-zero (suc x)) ∙ octet_product-zero y,
  λ a b ha hb. ap (octet_product y) (octet_product-xor (suc x) a b ha hb)
      ∙ octet_product-xor y (octet_product (suc x) a) (octet_product (suc x) b) (octet_product-lt (suc x) a ha) (octet_product-lt (suc x) b hb),
)
    (refl, λ a b ha hb. refl)
    on_powers n l
  where
    y : ℕ
    y = power (suc x)

    on_powers : (i : ℕ) → i < 8 → octet_product y (octet_product (suc x) (2 ^ i)) ≡ 2 ^ i
    on_powers i k =
        let small : 2 ^ i < 256 = pow_below i 8 k in
        quick_is y (octet_product (suc x) (2 ^ i)) (octet_product-lt (suc x) (2 ^ i) small)
        ∙ ap (quick 8 y) (quick_is (suc x) (2 ^ i) small)
        ∙ equal_below (λ i. quick 8 y (quick 8 (suc x) (2 ^ i))) (λ i. 2 ^ i) 8 i
        (and_parts (quick 8 (suc x) y == 1) (undoes y (suc x)) (inverses x (omega arith))).1 k

only_power : (x n : ℕ) → suc x < 256 → n < 256 → octet_product (suc x) n ≡ 1 → n ≡ power (suc x)
only_power x n h l e = sym (power_undoes x n h l) ∙ ap (octet_product (power (suc x))) e ∙ times_one (power (suc x)) (power-lt (suc x) h)

-- ---- the search finds the inverse

choice : (b : Bool) (n r y : ℕ) → (b ≡ true → n ≡ y) → (b ≡ false → r ≡ y) → cond b n r ≡ y
choice true n r y t f = t refl
choice false n r y t f = f refl

not_true : (a b : ℕ) → a ≡ b → (a == b) ≡ false → ⊥
not_true a b e f = let t : (a == b) ≡ true = eq-eqb a b e in cc

found : (n x y : ℕ) → y < n → octet_product x y ≡ 1 → ((m : ℕ) → m < n → octet_product x m ≡ 1 → m ≡ y) → inverse_below n x ≡ y
unfolding inverse_below
found zero x y h e only = absurd (omega arith)
found (suc n) x y h e only = choice (octet_product x n == 1) n (inverse_below n x) y
    (λ t. only n (omega arith) (eqb-true (octet_product x n) 1 t))
    (λ f. found n x y (below f) e (λ m l. only m (omega arith)))
  where
    below : (octet_product x n == 1) ≡ false → y < n
    below f = let ne : y ≢ n = λ s. not_true (octet_product x n) 1 (ap (octet_product x) (sym s) ∙ e) f in omega arith

zero_times : (n : ℕ) → n < 256 → octet_product 0 n ≡ 0
unfolding quick x_times polynomial_remainder all_below
zero_times n h = quick_is 0 n h ∙ equal_below (quick 8 0) (λ n. 0) 256 n refl h

none_found : (n : ℕ) → n ≤ 256 → inverse_below n 0 ≡ 0
unfolding inverse_below
none_found zero h = refl
none_found (suc n) h = choice (octet_product 0 n == 1) n (inverse_below n 0) 0
    (λ t. let one : octet_product 0 n ≡ 1 = eqb-true (octet_product 0 n) 1 t in let z : octet_product 0 n
    ≡ 0 = zero_times n (omega arith) in absurd (omega arith))
    (λ f. none_found n (omega arith))

pub inverse_is : (x : ℕ) → x < 256 → octet_inverse x ≡ power x
unfolding octet_inverse quick_powers quick x_times polynomial_remainder
inverse_is zero h = none_found 256 (omega arith)
inverse_is (suc x) h = found 256 (suc x) (power (suc x)) (power-lt (suc x) h) (times_power x h) (λ m l. only_power x m h l)

pub inverse-lt : (x : ℕ) → x < 256 → octet_inverse x < 256
inverse-lt x h = subst (λ y. y < 256) (sym (inverse_is x h)) (power-lt x h)

pub inverse_only : (x y : ℕ) → x < 256 → y < 256 → x ≢ 0 → (octet_product x y ≡ 1) ↔ (y ≡ octet_inverse x)
inverse_only zero y h l n = absurd (n refl)
inverse_only (suc x) y h l n = (
  λ e. only_power x y h l e ∙ sym (inverse_is (suc x) h),
  λ e. ap (octet_product (suc x)) (e ∙ inverse_is (suc x) h) ∙ times_power x h,
)

pub inverse_zero : octet_inverse 0 ≡ 0
unfolding octet_inverse
inverse_zero = none_found 256 (omega arith)

-- The inverse of the inverse of x is x.
pub inverse_twice : (x : ℕ) → x < 256 → octet_inverse (octet_inverse x) ≡ x
inverse_twice zero h = ap octet_inverse inverse_zero ∙ inverse_zero
inverse_twice (suc x) h =
    let y = power (suc x) in
    let small : y < 256 = power-lt (suc x) h in
    let one : octet_product y (suc x) ≡ 1 = ap (octet_product y) (sym (times_one (suc x) h)) ∙ power_undoes x 1 h (omega arith) in
    let ne : y ≢ 0 = λ z. (let bad : ◌≡◌ {A = ℕ} 0 1 = sym (zero_times (suc x) h) ∙ ap (λ v. octet_product v (suc x)) (sym z)
    ∙ one in absurd (omega (arith, bad))) in
    ap octet_inverse (inverse_is (suc x) h) ∙ sym ((inverse_only y (suc x) small h ne).0 one)
