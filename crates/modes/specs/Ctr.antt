-- Counter mode, GCTR (SP 800-38D section 6.5), from a first counter block f, over any function e of blocks.
use Rattle.std.specs.Prelude.{ℕ, ◌+◌, ◌/◌, ◌%◌, ◌^◌, List, ◌++◌, length, take, drop, map, bit_xor, slice_index}
use Rattle.std.specs.Int.{w32, from_be_bytes, to_be_bytes}
use Rattle.std.specs.List.{range_with_len}

-- f with n added to its last four octets, modulo 2 ^ 32: inc32 of section 6.2, n times (steps 4 and 5)
unfoldable pub counter_block : List ℕ → ℕ → List ℕ
counter_block f n = take 12 f ++ to_be_bytes w32 ((from_be_bytes w32 (drop 12 f) + n) % 2 ^ 32)

-- octet i of the key stream, e of each counter block (steps 6 and 7)
abbrev pub stream_octet : (List ℕ → List ℕ) → List ℕ → ℕ → ℕ
stream_octet e f i = slice_index (e (counter_block f (i / 16))) (i % 16)

-- each octet of p xor that of the key stream (steps 6 to 8)
unfoldable pub ctr : (List ℕ → List ℕ) → List ℕ → List ℕ → List ℕ
ctr e f p = map (λ i. bit_xor (slice_index p i) (stream_octet e f i)) (range_with_len 0 (length p))
