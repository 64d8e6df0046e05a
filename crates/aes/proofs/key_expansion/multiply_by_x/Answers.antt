use Rattle.std.proofs.Common.{arith}
use Rattle.aes.proofs.Products.{doubled_low, doubled_high}
use Rattle.aes.proofs.key_expansion.multiply_by_x.Goals as goal

pub returns-then-a-eq0 : goal.returns-then-a-eq0
returns-then-a-eq0 c = doubled_low c.args.a (omega arith) c.if-a-eq0.true

pub returns-else-a-eq0 : goal.returns-else-a-eq0
returns-else-a-eq0 c = doubled_high c.args.a (omega arith) c.if-a-eq0.false
