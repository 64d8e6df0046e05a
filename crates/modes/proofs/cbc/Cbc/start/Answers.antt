use Rattle.std.proofs.Common.{refl}
use Rattle.modes.specs.Cbc.{chained}
use Rattle.modes.proofs.cbc.Cbc.start.Goals as goal

pub returns : goal.returns
unfolding chained
returns g c = record { cipher = refl; previous = refl; waiting = c.new.ensures }
