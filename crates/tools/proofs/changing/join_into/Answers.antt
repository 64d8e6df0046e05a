use Rattle.std.proofs.Common.{Global, string_bytes, Ok, Err}
use Rattle.tools.proofs.Doing.{computed, returned, undone, went_on, went_on_at}
use Rattle.tools.proofs.changing.join_into.Goals as goal

pub returns-in_err-text : goal.returns-in_err-text
returns-in_err-text g c = returned _ c.in_err-text.ensures c.from_residual.ensures.1

pub returns-in_err-path : goal.returns-in_err-path
returns-in_err-path g c = went_on _ c.in_ok-text.ensures
    (returned _ (computed (string_bytes {Z = Global}) (Err c.in_err-path.field-0.0) c.in_err-path.ensures) c.from_residual-in_err-path.ensures.1)

pub returns-in_err-create : goal.returns-in_err-create
returns-in_err-create g c = went_on _ c.in_ok-text.ensures
    (went_on _ (computed string_bytes (Ok c.in_ok-path.path) c.in_ok-path.ensures)
    (returned _ c.in_err-create.ensures.takes c.from_residual-in_err-create.ensures.1))

pub returns-in_err-delete_after : goal.returns-in_err-delete_after
returns-in_err-delete_after g c = went_on_at _ c.as_str-2.ensures.value c.in_ok-text.ensures
    (went_on_at _ c.as_str.ensures.value (computed string_bytes (Ok c.in_ok-path.path) c.in_ok-path.ensures)
    (went_on _ c.in_ok-create.ensures.takes
    (returned _ (undone c.put_claimed-outcome.ensures c.in_err-delete_after.ensures) c.from_residual-in_err-delete_after.ensures.1)))

pub returns : goal.returns
returns g c = went_on_at _ c.as_str-2.ensures.value c.in_ok-text.ensures
    (went_on_at _ c.as_str.ensures.value (computed string_bytes (Ok c.in_ok-path.path) c.in_ok-path.ensures)
    (went_on _ c.in_ok-create.ensures.takes
    (went_on _ (undone c.put_claimed-outcome.ensures c.in_ok-delete_after.ensures) c.end_at.ensures)))
