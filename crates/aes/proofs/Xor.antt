-- The laws of `bit_xor`, and of sums by it.
use Rattle.std.proofs.Common.{◌≡◌, ℕ, zero, suc, ◌+◌, ◌*◌, ◌^◌, ◌-◌, ◌<◌, ◌%◌, ◌/◌, bit_xor, refl, sym, ap, ap₂, ◌∙◌, arith, ◌⊎◌, inl, inr, add-zero, zero-mul}
use Rattle.std.specs.Int.{bit_at}
use Rattle.std.proofs.lemmas.Nat.{pow_pos, mod-pow-add, mod_below}
use Rattle.std.proofs.lemmas.Nat.Bits.{bit_at-lt, bit_at_cat_high}
use Rattle.aes.specs.Polynomial.{polynomial_sum}
pub use lib.Bits.{xor_assoc, xor_comm, xor_zero_l, xor_zero_r, xor_self, xor_block, xor_lt, xor_shifted}

pub xor_left_comm : (a b c : ℕ) → bit_xor a (bit_xor b c) ≡ bit_xor b (bit_xor a c)
xor_left_comm a b c = sym (xor_assoc a b c) ∙ ap (λ x. bit_xor x c) (xor_comm a b) ∙ xor_assoc b a c

-- In a sum of two sums, the two middle terms may be exchanged.
pub xor_swap : (a b c d : ℕ) → bit_xor (bit_xor a b) (bit_xor c d) ≡ bit_xor (bit_xor a c) (bit_xor b d)
xor_swap a b c d = xor_assoc a b (bit_xor c d) ∙ ap (bit_xor a) (xor_left_comm b c d) ∙ sym (xor_assoc a c (bit_xor b d))

-- A term that is added twice cancels out.
pub xor_twice : (a b : ℕ) → bit_xor (bit_xor a b) b ≡ a
xor_twice a b = xor_assoc a b b ∙ ap (bit_xor a) (xor_self b) ∙ xor_zero_r a

pub xor_times_pow : (a b k : ℕ) → bit_xor (a * 2 ^ k) (b * 2 ^ k) ≡ bit_xor a b * 2 ^ k
xor_times_pow a b k =
    let h : zero < 2 ^ k = pow_pos k in
    ap₂ bit_xor (sym (add-zero (a * 2 ^ k))) (sym (add-zero (b * 2 ^ k))) ∙ xor_block k a b zero zero h h ∙ add-zero (bit_xor a b * 2 ^ k)

-- ---- sums

pub polynomial_sum-ext : (f g : ℕ → ℕ) (n : ℕ) → ((i : ℕ) → i < n → f i ≡ g i) → polynomial_sum f n ≡ polynomial_sum g n
unfolding polynomial_sum
polynomial_sum-ext f g zero h = refl
polynomial_sum-ext f g (suc n) h = ap₂ bit_xor (polynomial_sum-ext f g n (λ i l. h i (omega arith))) (h n (omega arith))

pub polynomial_sum-xor : (f g : ℕ → ℕ) (n : ℕ) → polynomial_sum (λ i. bit_xor (f i) (g i)) n ≡ bit_xor (polynomial_sum f n) (polynomial_sum g n)
unfolding polynomial_sum
polynomial_sum-xor f g zero = refl
polynomial_sum-xor f g (suc n) = ap (λ x. bit_xor x (bit_xor (f n) (g n))) (polynomial_sum-xor f g n)
    ∙ xor_swap (polynomial_sum f n) (polynomial_sum g n) (f n) (g n)

pub polynomial_sum-zero : (n : ℕ) → polynomial_sum (λ i. zero) n ≡ zero
unfolding polynomial_sum
polynomial_sum-zero zero = refl
polynomial_sum-zero (suc n) = ap (λ x. bit_xor x zero) (polynomial_sum-zero n)

-- A function that preserves sums of two preserves every sum.
pub polynomial_sum-map : (h : ℕ → ℕ) → h zero ≡ zero → ((a b : ℕ) → h (bit_xor a b) ≡ bit_xor (h a) (h b)) → (f : ℕ → ℕ) (n : ℕ)
    → h (polynomial_sum f n) ≡ polynomial_sum (λ i. h (f i)) n
unfolding polynomial_sum
polynomial_sum-map h z l f zero = z
polynomial_sum-map h z l f (suc n) = l (polynomial_sum f n) (f n) ∙ ap (λ x. bit_xor x (h (f n))) (polynomial_sum-map h z l f n)

-- The order of two sums may be exchanged.
pub polynomial_sum-swap : (f : ℕ → ℕ → ℕ) (n m : ℕ) → polynomial_sum (λ i. polynomial_sum (f i) m) n ≡ polynomial_sum (λ j. polynomial_sum (λ i. f i j) n) m
unfolding polynomial_sum
polynomial_sum-swap f zero m = sym (polynomial_sum-zero m)
polynomial_sum-swap f (suc n) m = ap (λ x. bit_xor x (polynomial_sum (f n) m)) (polynomial_sum-swap f n m)
    ∙ sym (polynomial_sum-xor (λ j. polynomial_sum (λ i. f i j) n) (f n) m)

pub polynomial_sum-lt : (f : ℕ → ℕ) (n k : ℕ) → ((i : ℕ) → i < n → f i < 2 ^ k) → polynomial_sum f n < 2 ^ k
unfolding polynomial_sum
polynomial_sum-lt f zero k h = pow_pos k
polynomial_sum-lt f (suc n) k h = xor_lt k _ _ (polynomial_sum-lt f n k (λ i l. h i (omega arith))) (h n (omega arith))

-- ---- bits

pub bit_cases : (n i : ℕ) → (bit_at n i ≡ zero) ⊎ (bit_at n i ≡ 1)
bit_cases n i = bit_below (bit_at n i) (bit_at-lt n i)
  where
    bit_below : (b : ℕ) → b < 2 → (b ≡ zero) ⊎ (b ≡ 1)
    bit_below zero h = inl refl
    bit_below (suc zero) h = inr refl
    bit_below (suc (suc b)) h = absurd (omega arith)

-- The multiple by a sum of two bits is the sum of the multiples.
pub bit_times-xor : (a b c : ℕ) → a < 2 → b < 2 → ((a + b) % 2) * c ≡ bit_xor (a * c) (b * c)
bit_times-xor zero zero c h k = zero-mul c ∙ ap₂ bit_xor (sym (zero-mul c)) (sym (zero-mul c))
bit_times-xor zero (suc zero) c h k = sym (xor_zero_l (1 * c)) ∙ ap (λ x. bit_xor x (1 * c)) (sym (zero-mul c))
bit_times-xor (suc zero) zero c h k = sym (xor_zero_r (1 * c)) ∙ ap (λ x. bit_xor (1 * c) x) (sym (zero-mul c))
bit_times-xor (suc zero) (suc zero) c h k = zero-mul c ∙ sym (xor_self (1 * c))
bit_times-xor a (suc (suc b)) c h k = absurd (omega arith)
bit_times-xor (suc (suc a)) b c h k = absurd (omega arith)

pub bit_at-shifted : (n k i : ℕ) → bit_at (n * 2 ^ k) (k + i) ≡ bit_at n i
bit_at-shifted n k i =
    ap (λ x. bit_at x (k + i)) (sym (add-zero (n * 2 ^ k))) ∙ bit_at_cat_high n k zero (k + i) (pow_pos k) (omega arith)
    ∙ ap (bit_at n) (let e : k + i - k ≡ i = omega arith in e)

-- A number is the sum of its bits.
pub bits_sum : (b n : ℕ) → polynomial_sum (λ j. bit_at b j * 2 ^ j) n ≡ b % 2 ^ n
unfolding polynomial_sum
bits_sum b zero = omega arith
bits_sum b (suc n) =
    let low : b % 2 ^ n < 2 ^ n = mod_below (b) (2 ^ n) (pow_pos n) in
    let e : b % 2 ^ (1 + n) ≡ (b / 2 ^ n % 2 ^ 1) * 2 ^ n + b % 2 ^ n = mod-pow-add b 1 n in
    ap (λ x. bit_xor x (bit_at b n * 2 ^ n)) (bits_sum b n)
    ∙ xor_comm (b % 2 ^ n) (bit_at b n * 2 ^ n)
    ∙ xor_shifted (bit_at b n) n (b % 2 ^ n) low
    ∙ sym e
    ∙ ap (λ k. b % 2 ^ k) (let s : 1 + n ≡ suc n = omega arith in s)
