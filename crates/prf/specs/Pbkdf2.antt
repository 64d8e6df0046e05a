-- PBKDF2 (RFC 8018 section 5.2) with HMAC over any hash function, of whole lists of octets.
use Rattle.std.specs.Prelude.{ℕ, zero, suc, ◌-◌, List, ◌++◌, map, fold, take}
use Rattle.std.specs.Int.{w32, to_be_bytes, div_ceil}
use Rattle.std.specs.List.{range_with_len, concat}
use Rattle.octets.specs.Octets.{xor_octets}
use Rattle.prf.specs.HashFunction.{HashFunction}
use Rattle.prf.specs.Hmac.{hmac}

-- S || INT(i), where INT(i) is the number in four octets, the most significant first (step 3)
abbrev pub first_text : List ℕ → ℕ → List ℕ
first_text salt i = salt ++ to_be_bytes w32 i

-- U_j of block i (step 3). U_0 is the first text, and each later one is the HMAC of the one before it.
unfoldable pub iterate : HashFunction → List ℕ → List ℕ → ℕ → ℕ → List ℕ
iterate f password salt i zero = first_text salt i
iterate f password salt i (suc j) = hmac f password (iterate f password salt i j)

-- T_i = U_1 xor U_2 xor .. xor U_c (step 3)
unfoldable pub derived_block : HashFunction → List ℕ → List ℕ → ℕ → ℕ → List ℕ
derived_block f password salt c i =
    fold xor_octets (iterate f password salt i 1) (map (iterate f password salt i) (range_with_len 2 (c - 1)))

-- the number of blocks of a key of this length (step 2)
abbrev pub block_count : HashFunction → ℕ → ℕ
block_count f len = div_ceil len f.output_len

-- the beginning of T_1 || T_2 || .. that has this length (step 4)
unfoldable pub pbkdf2 : HashFunction → List ℕ → List ℕ → ℕ → ℕ → List ℕ
pbkdf2 f password salt c len =
    take len (concat (map (derived_block f password salt c) (range_with_len 1 (block_count f len))))
