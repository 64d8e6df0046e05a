-- The steps of a definition that succeeds, and the tests that it passes.
use Rattle.std.proofs.Common.{◌≡◌, Result, Ok, Err, IfOk}
use Rattle.octets.specs.declared.refusal.Refusal.{Refusal}
use Rattle.octets.specs.Code.Results.{AgreesUnlessMemory}

-- A fact that follows from the answer holds of the result that agrees with it.
pub if_ok : {X Y : Type 0} (view : X → Y) (r : Result X Refusal) (answer : Result Y Refusal) (P : Y → Type 0) → ((y : Y) → answer ≡ Ok y → P y)
    → AgreesUnlessMemory view r answer → IfOk r (λ x. P (view x))
if_ok view (Ok x) answer P holds agrees = holds (view x) agrees
if_ok view (Err e) answer P holds agrees = tt
