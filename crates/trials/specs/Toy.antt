-- An insecure cipher, for the tests.
use Rattle.std.specs.Prelude.{ℕ, ◌+◌, ◌%◌, List, bit_xor, map, slice_index}
use Rattle.std.specs.List.{range_with_len}

-- octet i is the octet n places further on xor 1
unfoldable pub turned : ℕ → List ℕ → List ℕ
turned n b = map (λ i. bit_xor (slice_index b ((i + n) % 16)) 1) (range_with_len 0 16)
