use Rattle.std.proofs.Common.{refl}
use Rattle.modes.proofs.ctr.Ctr32.start.Goals as goal

pub returns : goal.returns
returns g c = record { cipher = refl; stream = c.start.ensures (g.B.Block.encrypted c.args.cipher) }
