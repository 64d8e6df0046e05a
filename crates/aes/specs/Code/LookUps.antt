-- What the look-ups make of one octet (crates/aes/src/lookups.rt has the mathematics).
use Rattle.std.specs.Prelude.{◌≡◌, ℕ, ◌<◌, ◌/◌, ◌||◌, nat_lt, nat_le, Bool, true, if◌then◌else◌, List, [], bit_and, bit_xor, slice_index, slice_index_or}
use Rattle.aes.specs.declared.tables.TheConstants.{INVERSE, QUOTIENT}

-- ---- one look-up

-- a place in the table, or one of 128 and more, where a look-up gives 0
abbrev pub is_place : ℕ → Bool
is_place j = nat_le 128 j || nat_lt j 16

-- each lane is one
abbrev pub AreInTable : List ℕ → Type 0
AreInTable v = (i : ℕ) → i < 16 → is_place (slice_index v i) ≡ true

-- the entry for a place
unfoldable pub entry : List ℕ → ℕ → ℕ
entry t j = if nat_le 128 j then 0 else slice_index t j

-- ---- an octet that is kept

-- k
abbrev pub low_of : ℕ → ℕ
low_of x = bit_and x 15

-- i
abbrev pub high_of : ℕ → ℕ
high_of x = x / 16

-- j = i + k
abbrev pub sum_of : ℕ → ℕ
sum_of x = bit_xor (high_of x) (low_of x)

-- 1/i + 1/(n k)
unfoldable pub with_i_of : ℕ → ℕ
with_i_of x = bit_xor (entry QUOTIENT (low_of x)) (entry INVERSE (high_of x))

-- 1/j + 1/(n k)
unfoldable pub with_j_of : ℕ → ℕ
with_j_of x = bit_xor (entry QUOTIENT (low_of x)) (entry INVERSE (sum_of x))

-- j + 1/(1/i + 1/(n k))
unfoldable pub p_of : ℕ → ℕ
p_of x = bit_xor (entry INVERSE (with_i_of x)) (sum_of x)

-- i + 1/(1/j + 1/(n k))
unfoldable pub q_of : ℕ → ℕ
q_of x = bit_xor (entry INVERSE (with_j_of x)) (high_of x)

-- ---- sums of two look-ups

-- of the halves of an octet
unfoldable pub from_halves : List (List ℕ) → ℕ → ℕ
from_halves ts x = bit_xor (entry (slice_index_or ts 0 []) (low_of x)) (entry (slice_index_or ts 1 []) (high_of x))

-- of p and q
unfoldable pub from_inverse : List (List ℕ) → ℕ → ℕ
from_inverse ts x = bit_xor (entry (slice_index_or ts 0 []) (p_of x)) (entry (slice_index_or ts 1 []) (q_of x))
