use Rattle.std.proofs.Common.{arith}
use Rattle.std.proofs.lemmas.Grind.{common_steps}
use Rattle.tokens.proofs.encrypt.recipients.recipients.Goals as goal

pub loop-delivery-preserved : goal.loop-delivery-preserved
loop-delivery-preserved c enc = grind (arith, common_steps, c.loop-delivery.invariant enc, c.in_ok-recipient.ensures.recipient enc)
