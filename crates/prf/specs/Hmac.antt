-- HMAC (RFC 2104 section 2) over any hash function, of whole lists of octets.
use Rattle.std.specs.Prelude.{ℕ, ◌-◌, List, ◌++◌, length, map, replicate, bit_xor, nat_lt, if◌then◌else◌}
use Rattle.prf.specs.HashFunction.{HashFunction}

-- the key, or its hash if it is longer than a block (section 2)
abbrev pub short_key : HashFunction → List ℕ → List ℕ
short_key f key = if nat_lt f.block_len (length key) then f.digest key else key

-- with zero octets up to a block (step 1)
abbrev pub key_block : HashFunction → List ℕ → List ℕ
key_block f key = short_key f key ++ replicate (f.block_len - length (short_key f key)) 0

-- each octet xor that of a pad (steps 2 and 5)
abbrev pub xor_each : ℕ → List ℕ → List ℕ
xor_each pad octets = map (λ o. bit_xor o pad) octets

-- K xor ipad (step 2)
abbrev pub inner_key : HashFunction → List ℕ → List ℕ
inner_key f key = xor_each 0x36 (key_block f key)

-- K xor opad (step 5)
abbrev pub outer_key : HashFunction → List ℕ → List ℕ
outer_key f key = xor_each 0x5c (key_block f key)

-- H(K xor opad, H(K xor ipad, text)) (steps 3 to 7)
unfoldable pub hmac : HashFunction → List ℕ → List ℕ → List ℕ
hmac f key text = f.digest (outer_key f key ++ f.digest (inner_key f key ++ text))
