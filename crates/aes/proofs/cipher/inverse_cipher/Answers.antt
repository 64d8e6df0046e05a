use Rattle.std.proofs.Common.{◌≡◌, ◌-◌, sym, ap, ◌∙◌, arith}
use Rattle.aes.specs.State.{add_round_key}
use Rattle.aes.specs.InverseCipher.{inverse_shift_rows, inverse_sub_bytes, undone, inverse_cipher}
use Rattle.aes.specs.Code.Blocks.{block}
use Rattle.aes.specs.Code.Kept.{summed}
use Rattle.aes.proofs.Places.{whole_block}
use Rattle.aes.proofs.Rounds.{undone-more}
use Rattle.aes.proofs.cipher.inverse_cipher.Goals as goal

pub loop-round-init : goal.loop-round-init
unfolding inverse_cipher
loop-round-init c =
    let w = c.args.round_keys.now in
    record {
      above = omega arith;
      rest = ap (λ s. undone w (c.args.nr - 1) (inverse_sub_bytes (inverse_shift_rows s)))
          (c.undo_last_key-state.ensures 0 (omega arith) ∙ ap (add_round_key w c.args.nr) (whole_block c.args.b.now (omega arith) 0 (omega arith)));
    }

pub loop-round-preserved : goal.loop-round-preserved
loop-round-preserved c = record {
  above = omega arith;
  rest = ap (λ s. undone c.args.round_keys.now (c.loop-round.round - 1 - 1) (inverse_sub_bytes (inverse_shift_rows s))) (c.undo_round-before.ensures 0 (omega arith))
      ∙ undone-more c.args.round_keys.now (inverse_sub_bytes (inverse_shift_rows (summed (block c.loop-round.state 0)))) (c.loop-round.round - 1) (omega arith)
      ∙ c.loop-round.invariant.rest;
}

pub returns : goal.returns
unfolding undone
returns c =
    let s = inverse_sub_bytes (inverse_shift_rows (summed (block c.loop-round.state 0))) in
    sym (whole_block c.undo_first_round.result (omega arith) 0 (omega arith))
    ∙ c.undo_first_round.ensures 0 (omega arith)
    ∙ ap (λ m. undone c.args.round_keys.now m s) (let e : 0 ≡ c.loop-round.round - 1 = omega arith in e)
    ∙ c.loop-round.invariant.rest
