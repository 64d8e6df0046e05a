-- The result of a call, compared with the answer of the definitions, which speak of whole lists of octets.
use Rattle.std.specs.Prelude.{◌≡◌, Bool, true, false, if◌then◌else◌, Option, Some, None, Result, Ok, Err}
use Rattle.octets.specs.declared.refusal.Refusal.{Refusal}
use Rattle.octets.specs.declared.refusal.Refusal.TheVariants.{Memory, Read, Write}

-- ---- steps (docs/SPECIFICATION.md "Refusals")

-- A definition of several steps is a `do` block: the first refusal decides.
infixl 10 ◌>>=◌
abbrev pub ◌>>=◌ : {A B : Type 0} → Result A Refusal → (A → Result B Refusal) → Result B Refusal
(Ok x) >>= f = f x
(Err r) >>= f = Err r

-- a step that refuses unless the test holds
abbrev pub needs : Bool → Refusal → Result (Unit {0}) Refusal
needs test refusal = if test then Ok tt else Err refusal

-- a step whose refusals are all this one
abbrev pub as_refusal : {A : Type 0} → Refusal → Result A Refusal → Result A Refusal
as_refusal refusal (Ok x) = Ok x
as_refusal refusal (Err r) = Err refusal

-- what is read of a value, if there is one
abbrev pub if_there : {A B : Type 0} → (A → Result B Refusal) → Option A → Result (Option B) Refusal
if_there read None = Ok None
if_there read (Some x) = read x >>= λ y. Ok (Some y)

-- the cause is memory or a device, and not the text of an input
abbrev pub is_external : Refusal → Bool
is_external Memory = true
is_external Read = true
is_external Write = true
is_external r = false

-- ---- results, seen by view (docs/SPECIFICATION.md "Refusals")

-- The result of a call over devices is the answer, unless memory or a device failed.
abbrev pub GivesUnlessExternal : {X Y : Type 0} → (X → Y) → Result X Refusal → Result Y Refusal → Type 0
GivesUnlessExternal view (Ok x) answer = answer ≡ Ok (view x)
GivesUnlessExternal view (Err r) answer = is_external r ≡ false → answer ≡ Err r

-- A call over devices wrote the octets of the answer, or refused as the answer does, unless memory or a device failed.
abbrev pub AgreesUnlessExternal : {W : Type 0} → Result W Refusal → W → Result (Unit {0}) Refusal → Type 0
AgreesUnlessExternal answer wrote result = GivesUnlessExternal (λ done. wrote) result answer
