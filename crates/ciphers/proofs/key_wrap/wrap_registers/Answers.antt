use Rattle.std.proofs.Common.{◌/◌, ◌%◌, ◌≤◌, ap, ◌∙◌, subst, arith}
use Rattle.ciphers.proofs.Table.{row_up}
use Rattle.ciphers.proofs.key_wrap.wrap_registers.Goals as goal

pub loop-t-preserved : goal.loop-t-preserved
loop-t-preserved g c = λ p start.
    row_up (g.B.Block.encrypted c.args.kek.now) p c.loop-t.t _ (ap (λ n. c.loop-t.t % (n / 8)) start.long) (subst (λ n. 16 ≤ n) start.long c.requires.0)
    _ c.loop-t.r c.step.new.a c.step.new.r (c.step.auto.r ∙ omega arith) (c.loop-t.invariant p start)
    c.step.ensures.check c.step.ensures.register
