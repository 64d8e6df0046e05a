-- An output that did not fail, even if the other one did.
use Rattle.std.proofs.Common.{◌≡◌, ◌≢◌, ◌⊎◌, [], ◌∷◌, Result, OnErr, inl, inr, arith}
use Rattle.octets.specs.declared.refusal.Refusal.{Refusal}
use Rattle.octets.specs.declared.refusal.Refusal.TheVariants.{Write}
use Rattle.octets.specs.Faults.{Counts, SomeFailed, DidNotFail}
use Rattle.octets.proofs.Agreement.{at_refusal}

-- If the only output that may be reported did not fail, the refusal is not Write.
pub not_told : (e : Refusal) (c : Counts) → (e ≡ Write → SomeFailed (c ∷ [])) → DidNotFail e c → e ≢ Write
not_told e c told spared is = elim (told is) [
  | inl failed ↦ absurd (omega (arith, failed, (spared is).0, (spared is).1))
  | inr none ↦ none
]

-- The content was written whole, and the text was not begun.
pub stands_first : {E F W : Type 0} (P : Type 0) (r : Result (Unit {0}) Refusal) → E → F → W → OnErr r (P ⊎ (E × F × W))
stands_first P r ended finished whole = at_refusal r (inr (ended, finished, whole))
