-- The inverse steps (FIPS 197 section 5.3), by which `decrypt` computes. Its result is fixed by `IsCipher`, not by this page.
use Rattle.std.specs.Prelude.{ℕ, zero, suc, ◌+◌, ◌-◌, ◌*◌, ◌%◌, ◌^◌, List, [], ◌∷◌}
use Rattle.std.specs.Int.{bit_at}
use Rattle.aes.specs.Polynomial.{polynomial_sum}
use Rattle.aes.specs.Octet.{octet_inverse}
use Rattle.aes.specs.State.{at, square, matrix, times_matrix, add_round_key}

-- row r turned to the right by r (section 5.3.1)
abbrev pub inverse_shift_rows : List ℕ → List ℕ
inverse_shift_rows s = square (λ r c. at s r ((c + 4 - r) % 4))

-- bit i is the sum of the bits i + 2, i + 5, i + 7 (modulo 8) of y and bit i of 0x05: the S-box's sum of bits undone (section 5.3.2)
unfoldable pub inverse_s_box_bit : ℕ → ℕ → ℕ
inverse_s_box_bit y i = (bit_at y ((i + 2) % 8) + bit_at y ((i + 5) % 8) + bit_at y ((i + 7) % 8) + bit_at 0x05 i) % 2

-- the octet of these bits (section 5.3.2)
unfoldable pub inverse_s_box_sum : ℕ → ℕ
inverse_s_box_sum y = polynomial_sum (λ i. inverse_s_box_bit y i * 2 ^ i) 8

-- the inverse of the S-box (section 5.3.2)
unfoldable pub inverse_s_box : ℕ → ℕ
inverse_s_box y = octet_inverse (inverse_s_box_sum y)

-- the inverse of the S-box on each octet (section 5.3.2)
abbrev pub inverse_sub_bytes : List ℕ → List ℕ
inverse_sub_bytes s = square (λ r c. inverse_s_box (at s r c))

-- each column multiplied by this matrix (section 5.3.3)
abbrev pub inverse_mix_columns : List ℕ → List ℕ
inverse_mix_columns s = times_matrix (matrix (
    14 ∷ 11 ∷ 13 ∷ 9 ∷
    9 ∷ 14 ∷ 11 ∷ 13 ∷
    13 ∷ 9 ∷ 14 ∷ 11 ∷
    11 ∷ 13 ∷ 9 ∷ 14 ∷ [])) s

-- the rounds from m down to 0 undone (section 5.3)
unfoldable pub undone : List ℕ → ℕ → List ℕ → List ℕ
undone w zero s = add_round_key w 0 s
undone w (suc m) s = undone w m (inverse_sub_bytes (inverse_shift_rows (inverse_mix_columns (add_round_key w (suc m) s))))

-- all nr rounds undone (section 5.3)
unfoldable pub inverse_cipher : ℕ → List ℕ → List ℕ → List ℕ
inverse_cipher nr w s = undone w (nr - 1) (inverse_sub_bytes (inverse_shift_rows (add_round_key w nr s)))
