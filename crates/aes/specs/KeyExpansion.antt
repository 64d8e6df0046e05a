-- The key expansion (FIPS 197 section 5.2). A key has nk words of four octets: 4, 6 or 8.
use Rattle.std.specs.Prelude.{ℕ, zero, suc, ◌+◌, ◌-◌, ◌*◌, ◌/◌, ◌%◌, ◌==◌, ◌&&◌, nat_lt, if◌then◌else◌, bit_xor, List, [], ◌∷◌, ◌++◌}
use Rattle.aes.specs.Octet.{octet_product}
use Rattle.aes.specs.SBox.{s_box}
use Rattle.aes.specs.State.{word}

-- ---- words, as functions that send r to octet r (section 5.2)

-- the word a b c d turned to b c d a
abbrev pub rot_word : (ℕ → ℕ) → ℕ → ℕ
rot_word a r = a ((r + 1) % 4)

-- the S-box on each octet
abbrev pub sub_word : (ℕ → ℕ) → ℕ → ℕ
sub_word a r = s_box (a r)

-- x ^ j in the field
unfoldable pub power_of_x : ℕ → ℕ
power_of_x zero = 1
power_of_x (suc j) = octet_product 2 (power_of_x j)

-- round constant j: x ^ (j - 1) and three zero octets
abbrev pub rcon : ℕ → ℕ → ℕ
rcon j r = if r == 0 then power_of_x (j - 1) else 0

-- the word a of place i - 1, transformed for place i
abbrev pub transformed : ℕ → ℕ → (ℕ → ℕ) → ℕ → ℕ
transformed nk i a r =
    if i % nk == 0 then bit_xor (sub_word (rot_word a) r) (rcon (i / nk) r) else
    (if nat_lt 6 nk && (i % nk == 4) then sub_word a r else a r)

-- ---- key words, as a list of their octets (section 5.2)

-- the word at place i, from the words before it
abbrev pub next_word : ℕ → List ℕ → ℕ → ℕ → ℕ
next_word nk w i r = bit_xor (word w (i - nk) r) (transformed nk i (word w (i - 1)) r)

-- the words of the key k, and the n words after them
unfoldable pub key_words : ℕ → List ℕ → ℕ → List ℕ
key_words nk k zero = k
key_words nk k (suc n) =
    let w = key_words nk k n in
    let next = next_word nk w (nk + n) in
    w ++ next 0 ∷ next 1 ∷ next 2 ∷ next 3 ∷ []

-- all words, four for each of the nk + 7 round keys
unfoldable pub key_expansion : ℕ → List ℕ → List ℕ
key_expansion nk k = key_words nk k (3 * nk + 28)
