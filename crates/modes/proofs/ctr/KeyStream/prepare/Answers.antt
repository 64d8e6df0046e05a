use Rattle.std.proofs.Common.{◌+◌, ◌-◌, ◌/◌, ◌<◌, refl, arith}
use Rattle.modes.proofs.Counting.{made_anew}
use Rattle.modes.proofs.ctr.KeyStream.prepare.Goals as goal

pub returns-then-self-eq256-clause-ready : goal.returns-then-self-eq256-clause-ready
returns-then-self-eq256-clause-ready g c f p k =
    let n = 16 - (c.min.result + 15) / 16 in
    let within : n < 16 = omega (arith, c.min.ensures, c.requires) in
    made_anew (g.B.Block.encrypted c.args.cipher.now) f p c.args.self.now _ n c.if-self-eq256.true within k refl
    (λ m at. c.make_blocks.ensures.counter f m k.sixteen at) (λ m at. c.make_blocks.ensures.blocks f m k.sixteen at)
