use Rattle.std.proofs.Common.{map, string_bytes}
use Rattle.tools.specs.Sets.{text_without}
use Rattle.tools.proofs.Doing.{judged_by, returned_seen, went_on}
use Rattle.tools.proofs.changing.read_without.Goals as goal

pub returns-in_err-text-clause-takes : goal.returns-in_err-text-clause-takes
returns-in_err-text-clause-takes g c = returned_seen string_bytes _ c.in_err-text.ensures.takes c.from_residual.ensures.1

pub returns-clause-takes : goal.returns-clause-takes
returns-clause-takes g c = went_on _ c.in_ok-text.ensures.takes (judged_by string_bytes c.text_without.result (text_without (map string_bytes c.args.names.now)) _
    c.deref.result.now c.deref.ensures.value c.text_without.ensures)
