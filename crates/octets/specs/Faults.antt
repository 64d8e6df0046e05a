-- What a result says of the devices of a call, by the counts of their failures.
use Rattle.std.specs.Prelude.{◌≡◌, ◌≢◌, ◌<◌, ◌⊎◌, ℕ, List, [], ◌∷◌, ⊤, Result, OnOk, IfErr, IsErrOf}
use Rattle.octets.specs.declared.refusal.Refusal.{Refusal}
use Rattle.octets.specs.declared.refusal.Refusal.TheVariants.{Read, Write}
use Rattle.octets.specs.Devices.{greatest_count, next_count}

-- ---- the counts (docs/SPECIFICATION.md "Devices")

-- how often a device had failed before the call, and after it
pub record Counts : Type 0 where
  pub old : ℕ
  pub new : ℕ

-- the counts of a device
abbrev pub counts : {D : Type 0} → (D → ℕ) → D → D → Counts
counts failures old new = record { old = failures old; new = failures new }

-- no device failed in the call
abbrev pub NoneFailed : List Counts → Type 0
NoneFailed [] = ⊤
NoneFailed (c ∷ cs) = (c.new ≡ c.old) × NoneFailed cs

-- some device failed in the call, once
abbrev pub SomeFailed : List Counts → Type 0
SomeFailed [] = ⊥
SomeFailed (c ∷ cs) = (c.new ≡ next_count c.old) ⊎ SomeFailed cs

-- ---- the results (docs/SPECIFICATION.md "Refusals")

-- The result is Read exactly if an input failed in the call, and Write exactly if an output did. No other refusal hides a failure.
pub record TellsFaults {X : Type 0} (inputs outputs : List Counts) (result : Result X Refusal) : Type 0 where
  pub works : OnOk result (NoneFailed inputs × NoneFailed outputs)
  pub read : IsErrOf result Read → SomeFailed inputs
  pub write : IsErrOf result Write → SomeFailed outputs
  pub inputs_told : IfErr result (λ refusal. refusal ≢ Read → NoneFailed inputs)
  pub outputs_told : IfErr result (λ refusal. refusal ≢ Write → NoneFailed outputs)

-- If the refusal is Write, the output with these counts did not fail in the call, but another one did. A count that is at its greatest
-- value does not show this.
abbrev pub DidNotFail : Refusal → Counts → Type 0
DidNotFail refusal c = refusal ≡ Write → (c.old < greatest_count) × (c.new ≡ c.old)
