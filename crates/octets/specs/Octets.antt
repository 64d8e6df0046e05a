-- Octet strings, as lists of numbers.
use Rattle.std.specs.Prelude.{ℕ, ◌<◌, List, bit_xor, length, map, slice_index}
use Rattle.std.specs.List.{range_with_len}

-- each number is an octet, of eight bits (FIPS 197 section 3.2)
abbrev pub IsOctets : List ℕ → Type 0
IsOctets xs = (i : ℕ) → slice_index xs i < 256

-- each octet of x xor the octet of y in its place (RFC 8018 section 2)
unfoldable pub xor_octets : List ℕ → List ℕ → List ℕ
xor_octets x y = map (λ i. bit_xor (slice_index x i) (slice_index y i)) (range_with_len 0 (length x))
