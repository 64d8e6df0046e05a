-- CBC (SP 800-38A section 6.2) with padding (RFC 5652 section 6.3), over any function e of blocks.
use Rattle.std.specs.Prelude.{ℕ, zero, suc, ◌-◌, ◌*◌, ◌/◌, ◌%◌, List, ◌++◌, length, take, drop, map, replicate}
use Rattle.std.specs.List.{range_with_len, concat}
use Rattle.octets.specs.Octets.{xor_octets}

-- block i, from 0, of sixteen octets (SP 800-38A section 5.2)
abbrev pub block : List ℕ → ℕ → List ℕ
block p i = take 16 (drop (16 * i) p)

-- p and then n octets of value n, n from 1 to 16, up to a multiple of 16 (RFC 5652 section 6.3)
unfoldable pub pad : List ℕ → List ℕ
pad p = p ++ replicate (16 - length p % 16) (16 - length p % 16)

-- C_i (section 6.2): C_0 is the IV, and C_(i + 1) is e of block i of p xor C_i
unfoldable pub chained : (List ℕ → List ℕ) → List ℕ → List ℕ → ℕ → List ℕ
chained e iv p zero = iv
chained e iv p (suc i) = e (xor_octets (block p i) (chained e iv p i))

-- C_1 || C_2 || .., for the whole blocks of p (section 6.2)
unfoldable pub cbc_blocks : (List ℕ → List ℕ) → List ℕ → List ℕ → List ℕ
cbc_blocks e iv p = concat (map (chained e iv p) (range_with_len 1 (length p / 16)))

-- the ciphertext (RFC 7518 section 5.2.2.1, step 3)
unfoldable pub cbc : (List ℕ → List ℕ) → List ℕ → List ℕ → List ℕ
cbc e iv p = cbc_blocks e iv (pad p)
