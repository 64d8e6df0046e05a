-- AES key wrap (RFC 3394 section 2.2), over any function e of blocks.
use Rattle.std.specs.Prelude.{◌≡◌, ℕ, zero, suc, ◌*◌, ◌/◌, ◌%◌, ◌≤◌, ◌==◌, if◌then◌else◌, bit_xor, List, ◌++◌, length, take, drop, map, replicate}
use Rattle.std.specs.Int.{w64, from_be_bytes, to_be_bytes}
use Rattle.std.specs.List.{range_with_len, concat}
use Rattle.octets.specs.Octets.{IsOctets}

-- the initial value (section 2.2.3.1)
abbrev pub initial_value : List ℕ
initial_value = replicate 8 0xa6

-- A ^ t, of the eight octets a and the number t (section 2.2.1)
unfoldable pub xor_count : ℕ → List ℕ → List ℕ
xor_count t a = to_be_bytes w64 (bit_xor (from_be_bytes w64 a) t)

-- part i of eight octets, counted from 0: P[i + 1] (section 2.2)
abbrev pub part : List ℕ → ℕ → List ℕ
part p i = take 8 (drop (8 * i) p)

-- The table (section 2.2.1, by indexes instead of shifts) has A(t) in column 0 and R(t, i) in column i, from 1 to the number n of parts.
-- Step t + 1 changes A and the register in column (t modulo n) + 1.
unfoldable pub table : (List ℕ → List ℕ) → List ℕ → ℕ → ℕ → List ℕ
table e p zero zero = initial_value
table e p zero (suc i) = part p i
table e p (suc t) zero = xor_count (suc t) (take 8 (e (table e p t 0 ++ table e p t (suc (t % (length p / 8))))))
table e p (suc t) (suc i) =
    if i == t % (length p / 8) then drop 8 (e (table e p t 0 ++ table e p t (suc i))) else table e p t (suc i)

-- Wrap(K, P) for P of n parts: A(6 n), R(6 n, 1) .. R(6 n, n) (section 2.2.1, step 3)
unfoldable pub wrapped : (List ℕ → List ℕ) → List ℕ → List ℕ
wrapped e p = concat (map (table e p (6 * (length p / 8))) (range_with_len 0 (suc (length p / 8))))

-- key data that can be wrapped: octets, in two parts or more (section 2)
pub record IsKeyData (p : List ℕ) : Type 0 where
  pub octets : IsOctets p
  pub parts : length p % 8 ≡ 0
  pub two : 16 ≤ length p

-- p is the unwrapping of c: the key data whose wrapping it is (section 2.2.2). Laws use this and `IsKeyData`. A content encryption key has
-- 16 to 64 octets in parts of eight, so `Delivery` need not ask.
pub record IsUnwrapping (e : List ℕ → List ℕ) (c p : List ℕ) : Type 0 where
  pub key_data : IsKeyData p
  pub wraps : wrapped e p ≡ c
