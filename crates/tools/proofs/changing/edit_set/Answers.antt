use Rattle.std.proofs.Common.{Global, string_bytes, Ok, Err}
use Rattle.tools.proofs.Doing.{computed, returned, went_on, went_on_at}
use Rattle.tools.proofs.changing.edit_set.Goals as goal

pub returns-in_err-old : goal.returns-in_err-old
returns-in_err-old g c = returned _ c.in_err-old.ensures.takes c.from_residual.ensures.1

pub returns-in_err-path : goal.returns-in_err-path
returns-in_err-path g c = went_on _ c.in_ok-old.ensures.takes
    (returned _ (computed (string_bytes {Z = Global}) (Err c.in_err-path.field-0.0) c.in_err-path.ensures) c.from_residual-in_err-path.ensures.1)

pub returns : goal.returns
returns g c = went_on _ c.in_ok-old.ensures.takes
    (went_on_at _ c.as_str.ensures.value (computed string_bytes (Ok c.in_ok-path.path) c.in_ok-path.ensures) c.edit_beside.ensures)
