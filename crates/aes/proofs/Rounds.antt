-- For every number of rounds and all key words, the rounds and the inverse rounds undo each other.
use Rattle.std.proofs.Common.{◌≡◌, ℕ, zero, suc, ◌+◌, ◌-◌, ◌<◌, List, slice_index, ap, ◌∙◌, arith}
use Rattle.aes.specs.State.{sub_bytes, shift_rows, mix_columns, add_round_key}
use Rattle.aes.specs.Block.{IsBlock, IsCipher}
use Rattle.aes.specs.Cipher.{state_after, cipher}
use Rattle.aes.specs.InverseCipher.{inverse_mix_columns, inverse_shift_rows, inverse_sub_bytes, undone, inverse_cipher}
use Rattle.aes.proofs.Matrices.{inverse_mix_columns-mix, mix_columns-inverse}
use Rattle.aes.proofs.Steps.{sub_is_block, inverse_sub_is_block, shift_is_block, inverse_shift_is_block, times_is_block, key_is_block, key_twice, inverse_shift_rows-shift, shift_rows-inverse, inverse_sub_bytes-sub, sub_bytes-inverse}

-- ---- the steps of the code's loops

pub state_after-more : (w b : List ℕ) (m : ℕ) → 0 < m
    → add_round_key w m (mix_columns (shift_rows (sub_bytes (state_after w b (m - 1))))) ≡ state_after w b (m + 1 - 1)
unfolding state_after
state_after-more w b zero h = absurd (omega arith)
state_after-more w b (suc m) h =
    ap (λ k. add_round_key w (suc m) (mix_columns (shift_rows (sub_bytes (state_after w b k))))) (let e : suc m - 1 ≡ m = omega arith in e)
    ∙ ap (state_after w b) (let e : suc m ≡ suc m + 1 - 1 = omega arith in e)

pub undone-more : (w s : List ℕ) (m : ℕ) → 0 < m → undone w (m - 1) (inverse_sub_bytes (inverse_shift_rows (inverse_mix_columns (add_round_key w m s))))
    ≡ undone w m s
unfolding undone
undone-more w s zero h = absurd (omega arith)
undone-more w s (suc m) h =
    ap (λ k. undone w k (inverse_sub_bytes (inverse_shift_rows (inverse_mix_columns (add_round_key w (suc m) s))))) (let e : suc m - 1 ≡ m = omega arith in e)

-- ---- the law

module _ (w : List ℕ) (small : (i : ℕ) → slice_index w i < 256) where
  state_is_block : (b : List ℕ) (m : ℕ) → IsBlock b → IsBlock (state_after w b m)
  unfolding state_after
  state_is_block b zero k = key_is_block w b 0 small k
  state_is_block b (suc m) k =
      key_is_block w _ (suc m) small (times_is_block _ _ (shift_is_block _ (sub_is_block (state_after w b m))))

  undone_is_block : (b : List ℕ) (m : ℕ) → IsBlock b → IsBlock (undone w m b)
  unfolding undone
  undone_is_block b zero k = key_is_block w b 0 small k
  undone_is_block b (suc m) k = undone_is_block (inverse_sub_bytes (inverse_shift_rows (inverse_mix_columns (add_round_key w (suc m) b)))) m
      (inverse_sub_is_block _)

  undone-state_after : (b : List ℕ) (m : ℕ) → IsBlock b → undone w m (state_after w b m) ≡ b
  unfolding state_after undone
  undone-state_after b zero k = key_twice w b 0 k
  undone-state_after b (suc m) k =
      let r = state_after w b m in
      let rk = state_is_block b m k in
      let s = sub_is_block r in
      let t = shift_is_block (sub_bytes r) s in
      let u = times_is_block _ (shift_rows (sub_bytes r)) t in
      ap (λ x. undone w m (inverse_sub_bytes (inverse_shift_rows (inverse_mix_columns x)))) (key_twice w (mix_columns (shift_rows (sub_bytes r))) (suc m) u)
      ∙ ap (λ x. undone w m (inverse_sub_bytes (inverse_shift_rows x))) (inverse_mix_columns-mix (shift_rows (sub_bytes r)) t.sixteen t.octets)
      ∙ ap (λ x. undone w m (inverse_sub_bytes x)) (inverse_shift_rows-shift (sub_bytes r) s)
      ∙ ap (undone w m) (inverse_sub_bytes-sub r rk)
      ∙ undone-state_after b m k

  state_after-undone : (b : List ℕ) (m : ℕ) → IsBlock b → state_after w (undone w m b) m ≡ b
  unfolding state_after undone
  state_after-undone b zero k = key_twice w b 0 k
  state_after-undone b (suc m) k =
      let a = add_round_key w (suc m) b in
      let ak = key_is_block w b (suc m) small k in
      let u = times_is_block _ a ak in
      let t = inverse_shift_is_block (inverse_mix_columns a) u in
      ap (λ x. add_round_key w (suc m) (mix_columns (shift_rows (sub_bytes x))))
      (state_after-undone (inverse_sub_bytes (inverse_shift_rows (inverse_mix_columns a))) m (inverse_sub_is_block _))
      ∙ ap (λ x. add_round_key w (suc m) (mix_columns (shift_rows x))) (sub_bytes-inverse (inverse_shift_rows (inverse_mix_columns a)) t)
      ∙ ap (λ x. add_round_key w (suc m) (mix_columns x)) (shift_rows-inverse (inverse_mix_columns a) u)
      ∙ ap (add_round_key w (suc m)) (mix_columns-inverse a ak.sixteen ak.octets)
      ∙ key_twice w b (suc m) k

  decrypted_encrypted : (nr : ℕ) (b : List ℕ) → IsBlock b → inverse_cipher nr w (cipher nr w b) ≡ b
  unfolding cipher inverse_cipher
  decrypted_encrypted nr b k =
      let r = state_after w b (nr - 1) in
      let s = sub_is_block r in
      ap (λ x. undone w (nr - 1) (inverse_sub_bytes (inverse_shift_rows x))) (key_twice w (shift_rows (sub_bytes r)) nr (shift_is_block (sub_bytes r) s))
      ∙ ap (λ x. undone w (nr - 1) (inverse_sub_bytes x)) (inverse_shift_rows-shift (sub_bytes r) s)
      ∙ ap (undone w (nr - 1)) (inverse_sub_bytes-sub r (state_is_block b (nr - 1) k))
      ∙ undone-state_after b (nr - 1) k

  encrypted_decrypted : (nr : ℕ) (b : List ℕ) → IsBlock b → cipher nr w (inverse_cipher nr w b) ≡ b
  unfolding cipher inverse_cipher
  encrypted_decrypted nr b k =
      let a = add_round_key w nr b in
      let ak = key_is_block w b nr small k in
      ap (λ x. add_round_key w nr (shift_rows (sub_bytes x))) (state_after-undone (inverse_sub_bytes (inverse_shift_rows a)) (nr - 1) (inverse_sub_is_block _))
      ∙ ap (λ x. add_round_key w nr (shift_rows x)) (sub_bytes-inverse (inverse_shift_rows a) (inverse_shift_is_block a ak))
      ∙ ap (add_round_key w nr) (shift_rows-inverse a ak)
      ∙ key_twice w b nr k

  encrypted_is_block : (nr : ℕ) (b : List ℕ) → IsBlock (cipher nr w b)
  unfolding cipher
  encrypted_is_block nr b = key_is_block w _ nr small (shift_is_block _ (sub_is_block (state_after w b (nr - 1))))

  decrypted_is_block : (nr : ℕ) (b : List ℕ) → IsBlock (inverse_cipher nr w b)
  unfolding inverse_cipher
  decrypted_is_block nr b = undone_is_block (inverse_sub_bytes (inverse_shift_rows (add_round_key w nr b))) (nr - 1) (inverse_sub_is_block _)

  pub is_cipher : (nr : ℕ) → IsCipher (cipher nr w) (inverse_cipher nr w)
  is_cipher nr = record {
    gives_block = λ b k. encrypted_is_block nr b;
    gives_block_back = λ b k. decrypted_is_block nr b;
    undoes = decrypted_encrypted nr;
    mirror = encrypted_decrypted nr;
  }
