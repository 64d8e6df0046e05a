-- Each step of a round makes a block, and is undone by its inverse.
use Rattle.std.proofs.Common.{◌≡◌, ℕ, ◌+◌, ◌-◌, ◌*◌, ◌/◌, ◌%◌, ◌<◌, ◌≤◌, List, bit_xor, slice_index, sym, ap, subst, ◌∙◌, arith, ⊎_elim}
use Rattle.std.proofs.lemmas.List.{get_or_past}
use Rattle.std.proofs.lemmas.Bool.{cases_lt}
use Rattle.aes.specs.Polynomial.{polynomial_sum}
use Rattle.aes.specs.Octet.{octet_product}
use Rattle.aes.specs.SBox.{s_box}
use Rattle.aes.specs.State.{at, square, word, sub_bytes, shift_rows, times_matrix, add_round_key}
use Rattle.aes.specs.Block.{IsBlock}
use Rattle.aes.specs.InverseCipher.{inverse_shift_rows, inverse_s_box, inverse_sub_bytes}
use Rattle.aes.proofs.Xor.{xor_lt, xor_twice, polynomial_sum-lt}
use Rattle.aes.proofs.Products.{octet_product-lt}
use Rattle.aes.proofs.Boxes.{s_box-lt, inverse_s_box-lt, unsubstitute_substitute, substitute_unsubstitute}
use Rattle.aes.proofs.Squares.{length-square, at-square, same_square}

-- ---- blocks

square_is_block : (f : ℕ → ℕ → ℕ) → ((r c : ℕ) → r < 4 → c < 4 → f r c < 256) → IsBlock (square f)
square_is_block f h = record { sixteen = length-square f; octets = λ i. ⊎_elim (inside i) (outside i) (cases_lt i 16) }
  where
    inside : (i : ℕ) → i < 16 → slice_index (square f) i < 256
    inside i l =
        let e : i % 4 + 4 * (i / 4) ≡ i = omega arith in
        let r : i % 4 < 4 = omega arith in
        let c : i / 4 < 4 = omega arith in
        subst (λ k. slice_index (square f) k < 256) e (subst (λ x. x < 256) (sym (at-square f (i % 4) (i / 4) r c)) (h (i % 4) (i / 4) r c))

    outside : (i : ℕ) → 16 ≤ i → slice_index (square f) i < 256
    outside i l = subst (λ x. x < 256) (sym (get_or_past (square f) i 0 (subst (λ n. n ≤ i) (sym (length-square f)) l))) (let z : 0 < 256 = omega arith in z)

pub sub_is_block : (b : List ℕ) → IsBlock (sub_bytes b)
sub_is_block b = square_is_block (λ r c. s_box (at b r c)) (λ r c h k. s_box-lt (at b r c))

pub inverse_sub_is_block : (b : List ℕ) → IsBlock (inverse_sub_bytes b)
inverse_sub_is_block b = square_is_block (λ r c. inverse_s_box (at b r c)) (λ r c h k. inverse_s_box-lt (at b r c))

pub shift_is_block : (b : List ℕ) → IsBlock b → IsBlock (shift_rows b)
shift_is_block b k = square_is_block (λ r c. at b r ((c + r) % 4)) (λ r c h l. k.octets (r + 4 * ((c + r) % 4)))

pub inverse_shift_is_block : (b : List ℕ) → IsBlock b → IsBlock (inverse_shift_rows b)
inverse_shift_is_block b k = square_is_block (λ r c. at b r ((c + 4 - r) % 4)) (λ r c h l. k.octets (r + 4 * ((c + 4 - r) % 4)))

pub times_is_block : (m : ℕ → ℕ → ℕ) (b : List ℕ) → IsBlock b → IsBlock (times_matrix m b)
times_is_block m b k = square_is_block (λ r c. polynomial_sum (λ j. octet_product (m r j) (at b j c)) 4)
    (λ r c h l. polynomial_sum-lt (λ j. octet_product (m r j) (at b j c)) 4 8 (λ j lj. octet_product-lt (m r j) (at b j c) (k.octets (j + 4 * c))))

pub key_is_block : (w b : List ℕ) (m : ℕ) → ((i : ℕ) → slice_index w i < 256) → IsBlock b → IsBlock (add_round_key w m b)
key_is_block w b m small k = square_is_block (λ r c. bit_xor (at b r c) (word w (4 * m + c) r))
    (λ r c h l. xor_lt 8 _ _ (k.octets (r + 4 * c)) (small (4 * (4 * m + c) + r)))

-- ---- undoing the steps

pub key_twice : (w b : List ℕ) (m : ℕ) → IsBlock b → add_round_key w m (add_round_key w m b) ≡ b
key_twice w b m k = same_square (λ r c. bit_xor (at (add_round_key w m b) r c) (word w (4 * m + c) r)) b k.sixteen (λ r c hr hc.
    ap (λ x. bit_xor x (word w (4 * m + c) r)) (at-square (λ r c. bit_xor (at b r c) (word w (4 * m + c) r)) r c hr hc)
    ∙ xor_twice (at b r c) (word w (4 * m + c) r))

pub inverse_shift_rows-shift : (b : List ℕ) → IsBlock b → inverse_shift_rows (shift_rows b) ≡ b
inverse_shift_rows-shift b k = same_square (λ r c. at (shift_rows b) r ((c + 4 - r) % 4)) b k.sixteen (λ r c hr hc.
    at-square (λ r c. at b r ((c + r) % 4)) r ((c + 4 - r) % 4) hr (omega arith)
    ∙ ap (at b r) (let e : ((c + 4 - r) % 4 + r) % 4 ≡ c = omega arith in e))

pub shift_rows-inverse : (b : List ℕ) → IsBlock b → shift_rows (inverse_shift_rows b) ≡ b
shift_rows-inverse b k = same_square (λ r c. at (inverse_shift_rows b) r ((c + r) % 4)) b k.sixteen (λ r c hr hc.
    at-square (λ r c. at b r ((c + 4 - r) % 4)) r ((c + r) % 4) hr (omega arith)
    ∙ ap (at b r) (let e : ((c + r) % 4 + 4 - r) % 4 ≡ c = omega arith in e))

pub inverse_sub_bytes-sub : (b : List ℕ) → IsBlock b → inverse_sub_bytes (sub_bytes b) ≡ b
inverse_sub_bytes-sub b k = same_square (λ r c. inverse_s_box (at (sub_bytes b) r c)) b k.sixteen (λ r c hr hc.
    ap inverse_s_box (at-square (λ r c. s_box (at b r c)) r c hr hc) ∙ unsubstitute_substitute (at b r c) (k.octets (r + 4 * c)))

pub sub_bytes-inverse : (b : List ℕ) → IsBlock b → sub_bytes (inverse_sub_bytes b) ≡ b
sub_bytes-inverse b k = same_square (λ r c. s_box (at (inverse_sub_bytes b) r c)) b k.sixteen (λ r c hr hc.
    ap s_box (at-square (λ r c. inverse_s_box (at b r c)) r c hr hc) ∙ substitute_unsubstitute (at b r c) (k.octets (r + 4 * c)))
