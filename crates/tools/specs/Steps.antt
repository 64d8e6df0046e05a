-- Steps of jose-set, each of which gives a value or a cause.
use Rattle.std.specs.Prelude.{◌≡◌, Bool, true, false, List, [], ◌∷◌, ◌++◌, if◌then◌else◌, Result, Ok, Err}
use Rattle.tools.specs.declared.tool_cause.ToolCause.{ToolCause}
use Rattle.tools.specs.declared.tool_cause.ToolCause.TheVariants.{Memory}
use Rattle.tools.specs.Calls.{Call}

-- ---- steps that call nothing (docs/SPECIFICATION.md "Tools")

-- A definition of several steps is a `do` block: the first cause decides.
infixl 10 ◌>>=◌
abbrev pub ◌>>=◌ : {A B : Type 0} → Result A ToolCause → (A → Result B ToolCause) → Result B ToolCause
(Ok x) >>= f = f x
(Err cause) >>= f = Err cause

-- a step that refuses unless the test holds
abbrev pub needs : Bool → ToolCause → Result (Unit {0}) ToolCause
needs test cause = if test then Ok tt else Err cause

abbrev pub is_memory : ToolCause → Bool
is_memory Memory = true
is_memory cause = false

-- The result is the answer, unless memory ran out.
abbrev pub GivesUnlessMemory : {X Y : Type 0} → (X → Y) → Result X ToolCause → Result Y ToolCause → Type 0
GivesUnlessMemory view (Ok x) answer = answer ≡ Ok (view x)
GivesUnlessMemory view (Err cause) answer = is_memory cause ≡ false → answer ≡ Err cause

-- ---- steps that make calls: a relation of the calls and the result (docs/SPECIFICATION.md "Tools")

abbrev pub Step : Type 0 → Type 1
Step A = List Call → Result A ToolCause → Type 0

-- no call is made, and the result is the answer, unless memory ran out
pub record Computes {A : Type 0} (answer : Result A ToolCause) (calls : List Call) (result : Result A ToolCause) : Type 0 where
  pub none : calls ≡ []
  pub gives : GivesUnlessMemory (λ x. x) result answer

-- one call, which does its work, or else this is the cause
abbrev pub Calls : (Bool → Call) → ToolCause → List Call → Result (Unit {0}) ToolCause → Type 0
Calls call cause calls (Ok done) = calls ≡ call true ∷ []
Calls call cause calls (Err e) = (calls ≡ call false ∷ []) × (e ≡ cause)

-- one step after another, unless the first has a cause
pub data Then {A B : Type 0} (first : Step A) (next : A → Step B) (calls : List Call) (result : Result B ToolCause) : Type 0 where
  stops : (cause : ToolCause) → first calls (Err cause) → result ≡ Err cause → Then first next calls result
  goes_on : (x : A) (front rest : List Call) → calls ≡ front ++ rest → first front (Ok x) → next x rest result → Then first next calls result

-- The device was `old` and is `new`. In between the step was taken, and no call was made that is not of the step.
pub record Takes {D A : Type 0} (made : D → List Call → Type 0) (old new : D) (step : Step A) (result : Result A ToolCause) : Type 0 where
  pub calls : List Call
  pub follow : (before : List Call) → made old before → made new (before ++ calls)
  pub meets : step calls result
