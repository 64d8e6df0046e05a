-- GCM (SP 800-38D section 7.1), with an IV of 12 octets and a tag of 16, over any function e of blocks.
use Rattle.std.specs.Prelude.{ℕ, ◌-◌, ◌*◌, ◌%◌, ◌^◌, List, [], ◌∷◌, ◌++◌, length, replicate}
use Rattle.std.specs.Int.{w64, to_be_bytes}
use Rattle.octets.specs.Octets.{xor_octets}
use Rattle.modes.specs.Ctr.{counter_block, ctr}
use Rattle.modes.specs.Ghash.{zero_filled, ghash}

-- step 1, H: e of the zero block
abbrev pub hash_subkey : (List ℕ → List ℕ) → List ℕ
hash_subkey e = e (replicate 16 0)

-- step 2, J0: the IV and the number 1
abbrev pub pre_counter_block : List ℕ → List ℕ
pre_counter_block iv = iv ++ 0 ∷ 0 ∷ 0 ∷ 1 ∷ []

-- step 3, C: counter mode from the counter block after J0
unfoldable pub gcm_ciphertext : (List ℕ → List ℕ) → List ℕ → List ℕ → List ℕ
gcm_ciphertext e iv p = ctr e (counter_block (pre_counter_block iv) 1) p

-- the number of bits of x, modulo 2 ^ 64, as eight octets (step 5; RFC 7518 section 5.2.2.1, step 4)
abbrev pub bit_length : List ℕ → List ℕ
bit_length x = to_be_bytes w64 (length x * 8 % 2 ^ 64)

-- steps 4 and 5, S: GHASH under H of A and C, each filled with zero octets, and of the lengths of both
abbrev pub gcm_hash : (List ℕ → List ℕ) → List ℕ → List ℕ → List ℕ
gcm_hash e aad c = ghash (hash_subkey e) (((zero_filled aad ++ zero_filled c) ++ bit_length aad) ++ bit_length c)

-- step 6, T: the sum of S and e of J0
unfoldable pub gcm_tag : (List ℕ → List ℕ) → List ℕ → List ℕ → List ℕ → List ℕ
gcm_tag e iv aad c = xor_octets (gcm_hash e aad c) (e (pre_counter_block iv))

-- the length of the longest plaintext (section 5.2.1.1)
abbrev pub longest : ℕ
longest = 2 ^ 36 - 32
