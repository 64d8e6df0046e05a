use Rattle.std.proofs.Common.{arith}
use Rattle.std.proofs.lemmas.Grind.{common_steps}
use Rattle.octets.proofs.Pieces.{drop-part}
use Rattle.octets.proofs.failing.FailingInputInput.read.Goals as goal

pub returns-clause-rest : goal.returns-clause-rest
returns-clause-rest c =
    drop-part c.in_ok-n.n c.room-room.result c.read.new.buf c.args.buf.now (grind (arith, common_steps, c.in_ok-n.ensures.does.octets.0))
    (grind (arith, common_steps, c.in_ok-n.ensures.does.octets.0)) c.in_ok-n.ensures.rest
