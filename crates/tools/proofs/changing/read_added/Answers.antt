use Rattle.std.proofs.Common.{string_bytes}
use Rattle.tools.proofs.Doing.{computed, returned_seen, went_on}
use Rattle.tools.proofs.changing.read_added.Goals as goal

pub returns-in_err-first-clause-takes : goal.returns-in_err-first-clause-takes
returns-in_err-first-clause-takes g c = returned_seen string_bytes _ c.in_err-first.ensures.takes c.from_residual.ensures.1

pub returns-in_err-joined-clause-takes : goal.returns-in_err-joined-clause-takes
returns-in_err-joined-clause-takes g c = went_on _ c.in_ok-first.ensures.takes (returned_seen string_bytes _ c.in_err-joined.ensures c.from_residual-in_err-joined.ensures.1)

pub returns-clause-takes : goal.returns-clause-takes
returns-clause-takes g c = went_on _ c.in_ok-first.ensures.takes (went_on _ c.in_ok-joined.ensures (computed string_bytes c.joined_text.result c.joined_text.ensures))
