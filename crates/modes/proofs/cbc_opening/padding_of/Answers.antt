use Rattle.std.proofs.Common.{arith}
use Rattle.modes.proofs.cbc_opening.padding_of.Goals as goal

pub loop-i-init : goal.loop-i-init
loop-i-init c = λ k h l. absurd (omega arith)

pub returns-clause-padding : goal.returns-clause-padding
returns-clause-padding c = record {
  above = omega arith;
  within = omega arith;
  each = λ i h l. c.loop-i.invariant i h (omega arith);
}
