-- The opening of CBC (SP 800-38A, section 6.2), over any function d of blocks, and the padding of a last block.
use Rattle.std.specs.Prelude.{◌≡◌, ℕ, zero, suc, ◌+◌, ◌/◌, ◌<◌, ◌≤◌, List, length, map, slice_index}
use Rattle.std.specs.List.{range_with_len, concat}
use Rattle.octets.specs.Octets.{xor_octets, IsOctets}
use Rattle.modes.specs.Cbc.{block}
use Rattle.modes.specs.Gcm.{gcm_ciphertext, gcm_tag, longest}

-- the IV, and then each block of the ciphertext
unfoldable pub before : List ℕ → List ℕ → ℕ → List ℕ
before iv c zero = iv
before iv c (suc i) = block c i

-- block i of the padded plaintext: d of block i of c plus the block before
unfoldable pub opened_block : (List ℕ → List ℕ) → List ℕ → List ℕ → ℕ → List ℕ
opened_block d iv c i = xor_octets (d (block c i)) (before iv c i)

-- all blocks of the padded plaintext
unfoldable pub opened_blocks : (List ℕ → List ℕ) → List ℕ → List ℕ → List ℕ
opened_blocks d iv c = concat (map (opened_block d iv c) (range_with_len 0 (length c / 16)))

-- the last n octets of the block are n, which is from 1 to 16
pub record IsPadded (b : List ℕ) (n : ℕ) : Type 0 where
  pub above : 0 < n
  pub within : n ≤ 16
  pub each : (i : ℕ) → 16 ≤ i + n → i < 16 → slice_index b i ≡ n

-- p is the opening of the ciphertext c and the tag (section 7.2)
pub record IsGcmOpening (e : List ℕ → List ℕ) (iv aad c tag p : List ℕ) : Type 0 where
  pub octets : IsOctets p
  pub short : length p ≤ longest
  pub is_ciphertext : gcm_ciphertext e iv p ≡ c
  pub is_tag : gcm_tag e iv aad c ≡ tag
