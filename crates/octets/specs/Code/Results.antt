-- The results of calls of the library, compared with the answers of the definitions.
use Rattle.std.specs.Prelude.{◌≡◌, ℕ, ◌<◌, Bool, true, false, if◌then◌else◌, length, Result, Ok, Err, IsTrue, List, []}
use Rattle.octets.specs.declared.refusal.Refusal.{Refusal}
use Rattle.octets.specs.declared.refusal.Refusal.TheVariants.{Memory, Read, Random}
use Rattle.octets.specs.Devices.{next_count, Observed}
use Rattle.octets.specs.Outcomes.{is_external}
use Rattle.std.specs.Result.{result_unwrap_or}

-- the cause is memory
abbrev pub is_memory : Refusal → Bool
is_memory Memory = true
is_memory r = false

-- The result of a call without devices that needs no memory is the answer.
abbrev pub Agrees : {X Y : Type 0} → (X → Y) → Result X Refusal → Result Y Refusal → Type 0
Agrees view (Ok x) answer = answer ≡ Ok (view x)
Agrees view (Err r) answer = (answer ≡ Err r) × (is_external r ≡ false)

-- The result of a call without devices is the answer, unless memory ran out.
abbrev pub AgreesUnlessMemory : {X Y : Type 0} → (X → Y) → Result X Refusal → Result Y Refusal → Type 0
AgreesUnlessMemory view (Ok x) answer = answer ≡ Ok (view x)
AgreesUnlessMemory view (Err r) answer = is_memory r ≡ false → (answer ≡ Err r) × (is_external r ≡ false)

-- Why reading an input to its end failed, by the count of its failures: memory ran out, or the input failed.
abbrev pub IsReadingFailure : ℕ → ℕ → Refusal → Type 0
IsReadingFailure old new Memory = new ≡ old
IsReadingFailure old new Read = new ≡ next_count old
IsReadingFailure old new r = ⊥

-- Why drawing this many octets failed, by what was seen and by the count of failures: the input ended too early, or it failed.
abbrev pub IsDrawingFailure : ℕ → Observed → ℕ → ℕ → Refusal → Type 0
IsDrawingFailure wanted seen old new Random = (length seen.octets < wanted) × IsTrue seen.ended × (new ≡ old)
IsDrawingFailure wanted seen old new Read = new ≡ next_count old
IsDrawingFailure wanted seen old new r = ⊥

-- a text that is written as a whole, or nothing before the inputs are read and accepted
abbrev pub accepted : Result (List ℕ) Refusal → Bool → List ℕ
accepted answer others_read = if others_read then result_unwrap_or answer [] else []
