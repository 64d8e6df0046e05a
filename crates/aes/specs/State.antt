-- The state and the four steps of a round (FIPS 197 sections 3.4, 3.5 and 5.1).
use Rattle.std.specs.Prelude.{ℕ, ◌+◌, ◌*◌, ◌/◌, ◌%◌, bit_xor, List, [], ◌∷◌, map, slice_index}
use Rattle.std.specs.List.{range_with_len}
use Rattle.aes.specs.Polynomial.{polynomial_sum}
use Rattle.aes.specs.Octet.{octet_product}
use Rattle.aes.specs.SBox.{s_box}

-- the octet in row r and column c: number r + 4 c of the block (section 3.4)
abbrev pub at : List ℕ → ℕ → ℕ → ℕ
at s r c = slice_index s (r + 4 * c)

-- the state that has f r c in row r and column c (section 3.4)
unfoldable pub square : (ℕ → ℕ → ℕ) → List ℕ
square f = map (λ n. f (n % 4) (n / 4)) (range_with_len 0 16)

-- octet r of word i, where w is a list of words of four octets (section 3.5)
abbrev pub word : List ℕ → ℕ → ℕ → ℕ
word w i r = slice_index w (4 * i + r)

-- the S-box on each octet (section 5.1.1)
abbrev pub sub_bytes : List ℕ → List ℕ
sub_bytes s = square (λ r c. s_box (at s r c))

-- row r turned to the left by r (section 5.1.2)
abbrev pub shift_rows : List ℕ → List ℕ
shift_rows s = square (λ r c. at s r ((c + r) % 4))

-- each column multiplied by the matrix m (section 4.3)
abbrev pub times_matrix : (ℕ → ℕ → ℕ) → List ℕ → List ℕ
times_matrix m s = square (λ r c. polynomial_sum (λ k. octet_product (m r k) (at s k c)) 4)

-- the entry in row r and column k of the matrix with these four rows (section 4.3)
abbrev pub matrix : List ℕ → ℕ → ℕ → ℕ
matrix rows r k = slice_index rows (4 * r + k)

-- each column multiplied by this matrix (section 5.1.3)
abbrev pub mix_columns : List ℕ → List ℕ
mix_columns s = times_matrix (matrix (
    2 ∷ 3 ∷ 1 ∷ 1 ∷
    1 ∷ 2 ∷ 3 ∷ 1 ∷
    1 ∷ 1 ∷ 2 ∷ 3 ∷
    3 ∷ 1 ∷ 1 ∷ 2 ∷ [])) s

-- column c added to the word 4 m + c of the key words w (section 5.1.4)
abbrev pub add_round_key : List ℕ → ℕ → List ℕ → List ℕ
add_round_key w m s = square (λ r c. bit_xor (at s r c) (word w (4 * m + c) r))
