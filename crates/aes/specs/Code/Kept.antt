-- How the code keeps a block between the rounds: with its octets in another basis of the field (FIPS 197 section 4).
use Rattle.std.specs.Prelude.{ℕ, ◌*◌, List, [], ◌∷◌, slice_index}
use Rattle.std.specs.Int.{bit_at}
use Rattle.aes.specs.Polynomial.{polynomial_sum}
use Rattle.aes.specs.SBox.{s_box_sum}
use Rattle.aes.specs.State.{at, square}

-- the octet that is kept as y: the sum of the elements of the basis for the bits of y
unfoldable pub plain_octet : ℕ → ℕ
plain_octet y = polynomial_sum (λ b. bit_at y b * slice_index (19 ∷ 212 ∷ 135 ∷ 62 ∷ 1 ∷ 12 ∷ 80 ∷ 176 ∷ []) b) 8

-- the block that encryption keeps as x
abbrev pub plain : List ℕ → List ℕ
plain x = square (λ r c. plain_octet (at x r c))

-- the block that decryption keeps as x: the S-box's sum of bits is still to be made of each octet (section 5.1.1)
abbrev pub summed : List ℕ → List ℕ
summed x = square (λ r c. s_box_sum (plain_octet (at x r c)))
