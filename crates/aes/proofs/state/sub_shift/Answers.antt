use Rattle.std.proofs.Common.{ap, ◌∙◌}
use Rattle.aes.specs.State.{shift_rows}
use Rattle.aes.proofs.state.sub_shift.Goals as goal

pub returns : goal.returns
returns g c i h = c.shifted.ensures i h ∙ ap shift_rows (c.sub.ensures i h)
