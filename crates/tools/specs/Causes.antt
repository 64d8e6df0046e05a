-- Why a tool refuses.
use Rattle.std.specs.Prelude.{◌≡◌, ◌≢◌, ℕ, true, false, List, length, Result, Ok, Err}
use Rattle.octets.specs.declared.refusal.Refusal.{Refusal}
use Rattle.octets.specs.declared.refusal.Refusal.TheVariants.{Key}
use Rattle.keys.specs.Keys.{OctetKey}
use Rattle.keys.specs.KeySets.{key_set}
use Rattle.keys.specs.Limits.{limits}
use Rattle.tokens.specs.Signers.{are_signers, sign_apart}
use Rattle.tools.specs.declared.cause.Cause.{Cause}
use Rattle.tools.specs.declared.cause.Cause.TheVariants.{Refused, BadKeys, OtherNumber, SignAlike}

-- ---- causes (docs/SPECIFICATION.md "Tools")

-- the refusal that a cause stands for
abbrev pub refusal_of : Cause → Refusal
refusal_of (Refused refusal) = refusal
refusal_of (BadKeys refusal) = refusal
refusal_of OtherNumber = Key
refusal_of SignAlike = Key

-- a result with the refusal in place of its cause
abbrev pub as_refused : {X : Type 0} → Result X Cause → Result X Refusal
as_refused (Ok x) = Ok x
as_refused (Err cause) = Err (refusal_of cause)

-- The cause is what is wrong with the keys: one of them is bad, they are not so many, or two of them sign alike. A cause that is not about
-- the keys comes only if they are so many signers.
abbrev pub IsCause : ℕ → List ℕ → Cause → Type 0
IsCause number keys (BadKeys refusal) = key_set limits keys true ≡ Err refusal
IsCause number keys OtherNumber = (set : List OctetKey) × ((key_set limits keys true ≡ Ok set) × (length set ≢ number))
IsCause number keys SignAlike = (set : List OctetKey) × ((key_set limits keys true ≡ Ok set) × (length set ≡ number) × (sign_apart set ≡ false))
IsCause number keys (Refused refusal) = (set : List OctetKey) × ((key_set limits keys true ≡ Ok set) × (are_signers number set ≡ true))
