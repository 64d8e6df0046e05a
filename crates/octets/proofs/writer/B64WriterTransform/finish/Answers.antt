use Rattle.std.proofs.Common.{Ok, ap}
use Rattle.octets.proofs.writer.B64WriterTransform.finish.Goals as goal

pub returns-clause-text : goal.returns-clause-text
returns-clause-text c job p fed octets = ap Ok (c.finish-len.ensures.text p fed)
