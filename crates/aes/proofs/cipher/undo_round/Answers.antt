use Rattle.std.proofs.Common.{ap, ◌∙◌}
use Rattle.aes.specs.State.{add_round_key}
use Rattle.aes.specs.InverseCipher.{inverse_mix_columns}
use Rattle.aes.proofs.cipher.undo_round.Goals as goal

pub returns : goal.returns
returns g c i h =
    c.inverse_mix.ensures i h
    ∙ ap inverse_mix_columns (c.add_round_key.ensures i h ∙ ap (add_round_key c.args.round_keys.now c.args.round) (c.inverse_shift_sub.ensures i h))
