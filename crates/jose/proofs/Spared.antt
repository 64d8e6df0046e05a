-- An output that a refusal leaves untouched.
use Rattle.std.proofs.Common.{◌≢◌, ℕ, List, [], ◌∷◌, Result, Ok, Err, IfErr, ap}
use Rattle.octets.specs.declared.refusal.Refusal.{Refusal}
use Rattle.octets.specs.declared.refusal.Refusal.TheVariants.{Write}
use Rattle.octets.specs.Faults.{Counts, counts, DidNotFail, TellsFaults}
use Rattle.octets.proofs.Lemmas.{not_told}

-- A fact that holds unless the refusal is Write also holds if the only output did not fail.
pub spared_alone : {D : Type 0} {inputs : List Counts} (failures : D → ℕ) (old new : D) (P : Type 0) (r : Result (Unit {0}) Refusal)
    → TellsFaults inputs (counts failures old new ∷ []) r
    → IfErr r (λ refusal. refusal ≢ Write → P) → IfErr r (λ refusal. DidNotFail refusal (counts failures old new) → P)
spared_alone failures old new P (Ok done) told untouched = tt
spared_alone failures old new P (Err e) told untouched = λ spared. untouched (not_told e (counts failures old new) (λ is. told.write (ap Err is)) spared)
