use Rattle.std.proofs.Common.{string_bytes}
use Rattle.tools.proofs.Doing.{computed, returned_seen, went_on}
use Rattle.tools.proofs.changing.read_joined.Goals as goal

pub returns-in_err-joined : goal.returns-in_err-joined
returns-in_err-joined g c = returned_seen string_bytes _ c.in_err-joined.ensures c.from_residual.ensures.1

pub returns : goal.returns
returns g c = went_on _ c.in_ok-joined.ensures (computed string_bytes c.joined_text.result c.joined_text.ensures)
