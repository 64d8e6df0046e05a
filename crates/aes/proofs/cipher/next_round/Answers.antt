use Rattle.std.proofs.Common.{ap, ◌∙◌}
use Rattle.aes.specs.State.{add_round_key}
use Rattle.aes.proofs.cipher.next_round.Goals as goal

pub returns : goal.returns
returns g c i h = c.add_kept_round_key.ensures i h ∙ ap (add_round_key c.args.round_keys.now c.args.round) (c.sub_shift_mix.ensures i h)
