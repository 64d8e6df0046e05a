use Rattle.std.proofs.Common.{◌≡◌, ℕ, ◌+◌, ◌-◌, ◌*◌, ◌≤◌, List, [], slice_index_or, ap, ◌∙◌, arith}
use Rattle.aes.specs.State.{add_round_key}
use Rattle.aes.specs.InverseCipher.{inverse_shift_rows, inverse_sub_bytes, inverse_mix_columns, undone, inverse_cipher}
use Rattle.aes.specs.Code.Blocks.{block}
use Rattle.aes.specs.Code.Kept.{summed}
use Rattle.aes.proofs.Rounds.{undone-more}
use Rattle.aes.proofs.Fours.{four, two}
use Rattle.aes.proofs.four_blocks.inverse_cipher_4.Goals as goal

abbrev undo : List ℕ → List ℕ
undo s = inverse_sub_bytes (inverse_shift_rows s)

pub loop-round-init : goal.loop-round-init
unfolding inverse_cipher
loop-round-init c =
    let w = c.args.round_keys.now in
    let nr = c.args.nr in
    let front = c.side_by_side.ensures in
    let back = c.side_by_side-2.ensures in
    let before : (b s t : List ℕ) → s ≡ add_round_key w nr t → t ≡ b → undone w (nr - 1) (undo s) ≡ inverse_cipher nr w b
    = λ b s t e f. ap (λ s. undone w (nr - 1) (undo s)) (e ∙ ap (add_round_key w nr) f) in
    record {
      above = omega arith;
      front = λ i h. before _ _ _ (c.undo_last_key-front.ensures i h) (two (λ i. slice_index_or c.args.blocks.now i []) _ front.first front.second i h);
      back = λ i h. before _ _ _ (c.undo_last_key-back.ensures i h) (two (λ i. slice_index_or c.args.blocks.now (2 + i) []) _ back.first back.second i h);
    }

pub loop-round-preserved : goal.loop-round-preserved
loop-round-preserved c =
    let w = c.args.round_keys.now in
    let m = c.loop-round.round - 1 in
    let before : (s t : List ℕ) → t ≡ inverse_mix_columns (add_round_key w m (undo s)) → undone w (m - 1) (undo t) ≡ undone w m (undo s)
    = λ s t e. ap (λ t. undone w (m - 1) (undo t)) e ∙ undone-more w (undo s) m (omega arith) in
    record {
      above = omega arith;
      front = λ i h. before (summed (block c.loop-round.front i)) _ (c.undo_round-front.ensures i h) ∙ c.loop-round.invariant.front i h;
      back = λ i h. before (summed (block c.loop-round.back i)) _ (c.undo_round-back.ensures i h) ∙ c.loop-round.invariant.back i h;
    }

pub returns : goal.returns
unfolding undone
returns c =
    let w = c.args.round_keys.now in
    let nr = c.args.nr in
    let first : 0 ≡ c.loop-round.round - 1 = omega arith in
    let front : (i : ℕ) → 16 * i + 16 ≤ 32 → block c.undo_first_round.result i ≡ inverse_cipher nr w (slice_index_or c.args.blocks.now i [])
    = λ i h. c.undo_first_round.ensures i h ∙ ap (λ m. undone w m (undo (summed (block c.loop-round.front i)))) first ∙ c.loop-round.invariant.front i h in
    let back : (i : ℕ) → 16 * i + 16 ≤ 32 → block c.undo_first_round-2.result i ≡ inverse_cipher nr w (slice_index_or c.args.blocks.now (2 + i) [])
    = λ i h. c.undo_first_round-2.ensures i h ∙ ap (λ m. undone w m (undo (summed (block c.loop-round.back i)))) first ∙ c.loop-round.invariant.back i h in
    four (inverse_cipher nr w) c.args.blocks.now _ _ _ _ c.told-blocks
    (ap (λ l. slice_index_or l 0 []) c.apart.ensures ∙ front 0 (omega arith)) (ap (λ l. slice_index_or l 1 []) c.apart.ensures ∙ front 1 (omega arith))
    (ap (λ l. slice_index_or l 0 []) c.apart-2.ensures ∙ back 0 (omega arith)) (ap (λ l. slice_index_or l 1 []) c.apart-2.ensures ∙ back 1 (omega arith))
