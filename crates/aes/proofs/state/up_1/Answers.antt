use Rattle.aes.specs.State.{square}
use Rattle.aes.proofs.state.up_1.Goals as goal

pub returns : goal.returns
unfolding square
returns g c i h = c.reordered.ensures i h
