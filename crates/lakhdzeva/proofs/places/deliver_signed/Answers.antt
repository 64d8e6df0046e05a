use Rattle.std.proofs.Common.{Ok, Err, Result, refl, ap}
use Rattle.octets.specs.declared.refusal.Refusal.{Refusal}
use Rattle.octets.specs.Outcomes.{◌>>=◌}
use Rattle.lakhdzeva.specs.Answers.{SignedPayload}
use Rattle.lakhdzeva.proofs.places.deliver_signed.Goals as goal

pub returns-in-Err : goal.returns-in-Err
returns-in-Err c = λ answer is. record {
  payload = c.deliver_payload.ensures (answer >>= λ signed. Ok signed.payload)
      (λ inside. ap (λ (a : Result SignedPayload Refusal). a >>= λ signed. Ok signed.payload) ((rw c.in-Err.is at is) inside));
  -- A refusal has no payload, so the status is not 0.
  named = λ zero. cc ((c.deliver_payload.ensures (Err c.in-Err.refusal) (λ inside. refl)).given zero).1;
  none = λ other. refl;
}
