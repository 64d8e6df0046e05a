use Rattle.std.proofs.Common.{◌≡◌, ◌-◌, sym, ap, ◌∙◌, arith}
use Rattle.aes.specs.State.{sub_bytes, shift_rows, mix_columns, add_round_key}
use Rattle.aes.specs.Cipher.{state_after, cipher}
use Rattle.aes.proofs.Places.{whole_block}
use Rattle.aes.proofs.Rounds.{state_after-more}
use Rattle.aes.proofs.cipher.cipher.Goals as goal

pub loop-round-init : goal.loop-round-init
unfolding state_after
loop-round-init c =
    c.first_round-state.ensures 0 (omega arith) ∙ ap (add_round_key c.args.round_keys.now 0) (whole_block c.args.b.now (omega arith) 0 (omega arith))

pub loop-round-preserved : goal.loop-round-preserved
loop-round-preserved c =
    c.next_round-state.ensures 0 (omega arith)
    ∙ ap (λ s. add_round_key c.args.round_keys.now c.loop-round.round (mix_columns (shift_rows (sub_bytes s)))) c.loop-round.invariant
    ∙ state_after-more c.args.round_keys.now c.args.b.now c.loop-round.round (omega arith)

pub returns : goal.returns
unfolding cipher
returns c =
    sym (whole_block c.last_round.result (omega arith) 0 (omega arith))
    ∙ c.last_round.ensures 0 (omega arith)
    ∙ ap (λ s. add_round_key c.args.round_keys.now c.args.nr (shift_rows (sub_bytes s)))
    (c.loop-round.invariant ∙ ap (λ m. state_after c.args.round_keys.now c.args.b.now (m - 1)) (let e : c.loop-round.round ≡ c.args.nr = omega arith in e))
