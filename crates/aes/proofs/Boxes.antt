-- The sum of bits in the S-box, its inverse, and that the two boxes undo each other.
use Rattle.std.proofs.Common.{◌≡◌, ℕ, zero, suc, ◌*◌, ◌^◌, ◌<◌, refl, sym, ap, subst, ◌∙◌, arith, zero-mul, one-mul}
use Rattle.std.proofs.lemmas.Nat.{pow_pos, pow_below}
use Rattle.aes.specs.Polynomial.{polynomial_sum}
use Rattle.aes.specs.Octet.{octet_inverse}
use Rattle.aes.specs.SBox.{s_box_bit, s_box_sum, s_box}
use Rattle.aes.specs.InverseCipher.{inverse_s_box_bit, inverse_s_box_sum, inverse_s_box}
use Rattle.aes.proofs.Xor.{polynomial_sum-lt}
use Rattle.aes.proofs.Inverses.{inverse-lt, inverse_twice}
use Rattle.aes.proofs.Below.{all_below, equal_below}

-- ---- octets

digit_lt : (c i n : ℕ) → c < 2 → i < n → c * 2 ^ i < 2 ^ n
digit_lt zero i n h l = subst (λ x. x < 2 ^ n) (sym (zero-mul (2 ^ i))) (pow_pos n)
digit_lt (suc zero) i n h l = subst (λ x. x < 2 ^ n) (sym (one-mul (2 ^ i))) (pow_below i n l)
digit_lt (suc (suc c)) i n h l = absurd (omega arith)

pub s_box-lt : (x : ℕ) → s_box x < 256
unfolding s_box s_box_sum s_box_bit
s_box-lt x = polynomial_sum-lt (λ i. s_box_bit (octet_inverse x) i * 2 ^ i) 8 8 (λ i l. digit_lt (s_box_bit (octet_inverse x) i) i 8 (omega arith) l)

inverse_s_box_sum-lt : (y : ℕ) → inverse_s_box_sum y < 256
unfolding inverse_s_box_sum inverse_s_box_bit
inverse_s_box_sum-lt y = polynomial_sum-lt (λ i. inverse_s_box_bit y i * 2 ^ i) 8 8 (λ i l. digit_lt (inverse_s_box_bit y i) i 8 (omega arith) l)

pub inverse_s_box-lt : (y : ℕ) → inverse_s_box y < 256
unfolding inverse_s_box
inverse_s_box-lt y = inverse-lt (inverse_s_box_sum y) (inverse_s_box_sum-lt y)

-- ---- the two boxes undo each other

pub sum_undone : (b : ℕ) → b < 256 → inverse_s_box_sum (s_box_sum b) ≡ b
unfolding all_below s_box_sum s_box_bit inverse_s_box_sum inverse_s_box_bit polynomial_sum
sum_undone b h = equal_below (λ b. inverse_s_box_sum (s_box_sum b)) (λ b. b) 256 b refl h

undone_sum : (y : ℕ) → y < 256 → s_box_sum (inverse_s_box_sum y) ≡ y
unfolding all_below s_box_sum s_box_bit inverse_s_box_sum inverse_s_box_bit polynomial_sum
undone_sum y h = equal_below (λ y. s_box_sum (inverse_s_box_sum y)) (λ y. y) 256 y refl h

pub unsubstitute_substitute : (x : ℕ) → x < 256 → inverse_s_box (s_box x) ≡ x
unfolding s_box inverse_s_box
unsubstitute_substitute x h = ap octet_inverse (sum_undone (octet_inverse x) (inverse-lt x h)) ∙ inverse_twice x h

pub substitute_unsubstitute : (y : ℕ) → y < 256 → s_box (inverse_s_box y) ≡ y
unfolding s_box inverse_s_box
substitute_unsubstitute y h = ap s_box_sum (inverse_twice (inverse_s_box_sum y) (inverse_s_box_sum-lt y)) ∙ undone_sum y h
