-- An output that is lent to a call, or none.
use Rattle.std.specs.Prelude.{◌⊎◌, ℕ, List, [], ◌∷◌, ⊤, Option, Some, None}
use Rattle.std.specs.Borrow.{MutBor}
use Rattle.std.proofs.Common.{inl, inr}
use Rattle.octets.specs.Devices.{appended}
use Rattle.octets.specs.Faults.{Counts, counts}

-- as it was lent, and as it came back
pub record Lent (D : Type 0) : Type 0 where
  pub old : D
  pub new : D

abbrev pub lent : {D : Type 0} → Option (MutBor D) → Unit {0} ⊎ ((MutBor D × Unit {0}) ⊎ ⊥) → Option (Lent D)
lent (Some before) (inr (inl after)) = Some (record { old = before.now; new = after.0.now })
lent entry exit = None

-- what was written to it
abbrev pub wrote_on : {D : Type 0} → (D → List ℕ) → Option (Lent D) → List ℕ
wrote_on written None = []
wrote_on written (Some it) = appended (written it.old) (written it.new)

-- what the call did to it, if it was lent
abbrev pub IfLent : {D : Type 0} → Option (Lent D) → (D → D → Type 0) → Type 0
IfLent None Did = ⊤
IfLent (Some it) Did = Did it.old it.new

-- its count of failures
abbrev pub counts_of : {D : Type 0} → (D → ℕ) → Option (Lent D) → List Counts
counts_of failures None = []
counts_of failures (Some it) = counts failures it.old it.new ∷ []
