-- The cipher (FIPS 197 section 5.1).
use Rattle.std.specs.Prelude.{◌≡◌, ℕ, zero, suc, ◌+◌, ◌-◌, List}
use Rattle.aes.specs.Block.{IsBlock}
use Rattle.aes.specs.State.{sub_bytes, shift_rows, mix_columns, add_round_key}
use Rattle.aes.specs.KeyExpansion.{key_expansion}

-- round 0 with the words w, and then m rounds with all four steps (section 5.1)
unfoldable pub state_after : List ℕ → List ℕ → ℕ → List ℕ
state_after w b zero = add_round_key w 0 b
state_after w b (suc m) = add_round_key w (suc m) (mix_columns (shift_rows (sub_bytes (state_after w b m))))

-- all nr rounds, of which the last mixes no columns (section 5.1)
unfoldable pub cipher : ℕ → List ℕ → List ℕ → List ℕ
cipher nr w b = add_round_key w nr (shift_rows (sub_bytes (state_after w b (nr - 1))))

-- E(K, b) for the key k of nk words, with nk + 6 rounds (section 5)
unfoldable pub encrypted_block : ℕ → List ℕ → List ℕ → List ℕ
encrypted_block nk k b = cipher (nk + 6) (key_expansion nk k) b

-- D(K, c) is the block b that E sends to c (section 5.3)
pub record IsDecryptedBlock (nk : ℕ) (k c b : List ℕ) : Type 0 where
  pub is_block : IsBlock b
  pub is_sent_to : encrypted_block nk k b ≡ c
