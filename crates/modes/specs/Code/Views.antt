-- What a running mode was started with, and what it was fed.
use Rattle.std.specs.Prelude.{◌≡◌, ℕ, ◌+◌, ◌-◌, ◌*◌, ◌/◌, ◌%◌, ◌<◌, List, ◌++◌, length, drop, slice_index}
use Rattle.std.specs.Int.{w128, from_be_bytes}
use Rattle.modes.specs.Cbc.{chained}
use Rattle.modes.specs.Ctr.{counter_block, stream_octet}
use Rattle.modes.specs.Gcm.{hash_subkey, pre_counter_block, bit_length, gcm_ciphertext}
use Rattle.modes.specs.Ghash.{ghash_number, numbers, zero_filled}
use Rattle.modes.specs.declared.cbc.Cbc.{Cbc}
use Rattle.modes.specs.declared.ctr.Ctr32.{Ctr32}
use Rattle.modes.specs.declared.ctr.KeyStream.{KeyStream}
use Rattle.modes.specs.declared.gcm.Gcm.{Gcm}
use Rattle.modes.specs.declared.ghash.Ghash.{Ghash}

-- it was started with a cipher that encrypts blocks by e, and with this IV, and was fed p
pub record HoldsCbc {B : Type 0} (encrypted : B → List ℕ → List ℕ) (s : Cbc B) (e : List ℕ → List ℕ) (iv p : List ℕ) : Type 0 where
  pub cipher : encrypted s.cipher ≡ e
  pub previous : s.previous ≡ chained e iv p (length p / 16)
  pub waiting : s.waiting ≡ drop (16 * (length p / 16)) p

-- the key stream of e from the first counter block f, after the text p: the unused octets of its blocks come next
pub record HoldsKeyStream (s : KeyStream) (e : List ℕ → List ℕ) (f p : List ℕ) : Type 0 where
  pub sixteen : length f ≡ 16
  pub whole : (length p + (256 - s.used)) % 16 ≡ 0
  pub counter : s.counter ≡ counter_block f ((length p + (256 - s.used)) / 16)
  pub blocks : (i : ℕ) → i < 256 - s.used → slice_index s.blocks (s.used + i) ≡ stream_octet e f (length p + i)

-- it was started with a cipher that encrypts blocks by e, and with this first counter block, and was fed p
pub record HoldsCtr {B : Type 0} (encrypted : B → List ℕ → List ℕ) (s : Ctr32 B) (e : List ℕ → List ℕ) (f p : List ℕ) : Type 0 where
  pub cipher : encrypted s.cipher ≡ e
  pub stream : HoldsKeyStream s.stream e f p

-- it was started with the block h, and was fed x
pub record HoldsGhash (s : Ghash) (h x : List ℕ) : Type 0 where
  pub key : s.subkey.h ≡ from_be_bytes w128 h
  pub sum : s.sum ≡ ghash_number s.subkey.h (numbers x)
  pub waiting : s.waiting ≡ drop (16 * (length x / 16)) x

-- it was started with a cipher that encrypts blocks by e, this IV and additional data, and was fed p
pub record HoldsGcm {B : Type 0} (encrypted : B → List ℕ → List ℕ) (s : Gcm B) (e : List ℕ → List ℕ) (iv aad p : List ℕ) : Type 0 where
  pub ctr : HoldsCtr encrypted s.ctr e (counter_block (pre_counter_block iv) 1) p
  pub hash : HoldsGhash s.hash (hash_subkey e) (zero_filled aad ++ gcm_ciphertext e iv p)
  pub tag_mask : s.tag_mask ≡ e (pre_counter_block iv)
  pub aad_bits : s.aad_bits ≡ bit_length aad
  pub len : s.len ≡ length p
