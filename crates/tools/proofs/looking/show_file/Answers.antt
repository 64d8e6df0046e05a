use Rattle.std.proofs.Common.{Ok, Err, Vec, Global, ℕ, ap}
use Rattle.tools.proofs.Doing.{answered, computed, returned, went_on, went_on_at}
use Rattle.tools.proofs.looking.show_file.Goals as goal

pub returns-in_err-text : goal.returns-in_err-text
returns-in_err-text g c = returned _ c.in_err-text.ensures c.from_residual.ensures.1

pub returns-in_err-octets : goal.returns-in_err-octets
returns-in_err-octets g c = went_on _ c.in_ok-text.ensures
    (returned _ (computed (λ (octets : Vec ℕ Global). octets.items) (Err c.in_err-octets.field-0.0) c.in_err-octets.ensures) c.from_residual-in_err-octets.ensures.1)

pub returns-in_err-write_out : goal.returns-in_err-write_out
returns-in_err-write_out g c = went_on _ c.in_ok-text.ensures
    (went_on_at _ c.deref.ensures.value (computed (λ (octets : Vec ℕ Global). octets.items) (Ok c.in_ok-octets.octets) c.in_ok-octets.ensures)
    (returned _ c.in_err-write_out.ensures c.from_residual-in_err-write_out.ensures.1))

pub returns : goal.returns
returns g c = went_on _ c.in_ok-text.ensures
    (went_on_at _ c.deref.ensures.value (computed (λ (octets : Vec ℕ Global). octets.items) (Ok c.in_ok-octets.octets) c.in_ok-octets.ensures)
    (went_on _ c.in_ok-write_out.ensures (answered _ _ (ap Ok c.is_read.ensures))))
