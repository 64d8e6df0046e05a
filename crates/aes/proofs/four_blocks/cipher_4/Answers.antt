use Rattle.std.proofs.Common.{◌≡◌, ℕ, ◌+◌, ◌-◌, ◌*◌, ◌≤◌, List, [], slice_index_or, ap, ◌∙◌, arith}
use Rattle.aes.specs.State.{sub_bytes, shift_rows, mix_columns, add_round_key}
use Rattle.aes.specs.Cipher.{state_after, cipher}
use Rattle.aes.specs.Code.Blocks.{block}
use Rattle.aes.proofs.Rounds.{state_after-more}
use Rattle.aes.proofs.Fours.{four, two}
use Rattle.aes.proofs.four_blocks.cipher_4.Goals as goal

pub loop-round-init : goal.loop-round-init
unfolding state_after
loop-round-init c =
    let w = c.args.round_keys.now in
    let front = c.side_by_side.ensures in
    let back = c.side_by_side-2.ensures in
    record {
      front = λ i h. c.first_round-front.ensures i h ∙ ap (add_round_key w 0) (two (λ i. slice_index_or c.args.blocks.now i []) _ front.first front.second i h);
      back = λ i h. c.first_round-back.ensures i h ∙ ap (add_round_key w 0) (two (λ i. slice_index_or c.args.blocks.now (2 + i) []) _ back.first back.second i h);
    }

pub loop-round-preserved : goal.loop-round-preserved
loop-round-preserved c =
    let w = c.args.round_keys.now in
    let m = c.loop-round.round in
    let after : (b s : List ℕ) → s ≡ state_after w b (m - 1) → add_round_key w m (mix_columns (shift_rows (sub_bytes s))) ≡ state_after w b (m + 1 - 1)
    = λ b s e. ap (λ s. add_round_key w m (mix_columns (shift_rows (sub_bytes s)))) e ∙ state_after-more w b m (omega arith) in
    record {
      front = λ i h. c.next_round-front.ensures i h ∙ after _ _ (c.loop-round.invariant.front i h);
      back = λ i h. c.next_round-back.ensures i h ∙ after _ _ (c.loop-round.invariant.back i h);
    }

pub returns : goal.returns
unfolding cipher
returns c =
    let w = c.args.round_keys.now in
    let nr = c.args.nr in
    let last : c.loop-round.round ≡ nr = omega arith in
    let after : (b s : List ℕ) → s ≡ state_after w b (c.loop-round.round - 1) → add_round_key w nr (shift_rows (sub_bytes s)) ≡ cipher nr w b
    = λ b s e. ap (λ s. add_round_key w nr (shift_rows (sub_bytes s))) (e ∙ ap (λ m. state_after w b (m - 1)) last) in
    let front : (i : ℕ) → 16 * i + 16 ≤ 32 → block c.last_round.result i ≡ cipher nr w (slice_index_or c.args.blocks.now i [])
    = λ i h. c.last_round.ensures i h ∙ after _ _ (c.loop-round.invariant.front i h) in
    let back : (i : ℕ) → 16 * i + 16 ≤ 32 → block c.last_round-2.result i ≡ cipher nr w (slice_index_or c.args.blocks.now (2 + i) [])
    = λ i h. c.last_round-2.ensures i h ∙ after _ _ (c.loop-round.invariant.back i h) in
    four (cipher nr w) c.args.blocks.now _ _ _ _ c.told-blocks
    (ap (λ l. slice_index_or l 0 []) c.apart.ensures ∙ front 0 (omega arith)) (ap (λ l. slice_index_or l 1 []) c.apart.ensures ∙ front 1 (omega arith))
    (ap (λ l. slice_index_or l 0 []) c.apart-2.ensures ∙ back 0 (omega arith)) (ap (λ l. slice_index_or l 1 []) c.apart-2.ensures ∙ back 1 (omega arith))
