use Rattle.aes.specs.State.{square}
use Rattle.aes.proofs.state.shifted.Goals as goal

pub returns : goal.returns
unfolding square
returns g c i h = c.reordered.ensures i h
