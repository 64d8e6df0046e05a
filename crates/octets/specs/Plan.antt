-- What a call is to write, after everything except its content was read and accepted.
use Rattle.std.specs.Prelude.{◌≡◌, ℕ, List, [], ◌++◌, length, take, nat_le, if◌then◌else◌, Result, Ok, Err}
use Rattle.std.specs.Result.{result_unwrap_or}
use Rattle.octets.specs.declared.refusal.Refusal.{Refusal}
use Rattle.octets.specs.declared.refusal.Refusal.TheVariants.{Random}
use Rattle.octets.specs.Octets.{IsOctets}
use Rattle.octets.specs.Devices.{Observed}
use Rattle.octets.specs.Outcomes.{◌>>=◌, needs}

-- ---- what is written (docs/SPECIFICATION.md "Commands" 4)

-- the octets for each output of a call: for its text, and for a content that is written apart from it
pub record OutputTexts : Type 0 where
  pub text : List ℕ
  pub content : List ℕ

abbrev pub nothing : OutputTexts
nothing = record { text = []; content = [] }

-- ---- by the content (docs/SPECIFICATION.md "Commands", what is left after a refusal)

-- what is written, of type W, for each content
pub record Plan (W : Type 0) : Type 0 where
  -- for the whole content, or the refusal
  pub whole : List ℕ → Result W Refusal
  -- what a beginning of the content fixes
  pub fixed : List ℕ → W

-- the list `all` begins with `front`
pub record Begins (front all : List ℕ) : Type 0 where
  pub rest : List ℕ
  pub continues : all ≡ front ++ rest

-- The text that a beginning of the content fixes grows as more is read, and is a beginning of the whole text.
pub record Grows (plan : Plan (List ℕ)) : Type 0 where
  pub more : (p q : List ℕ) → Begins (plan.fixed p) (plan.fixed (p ++ q))
  pub whole : (p q w : List ℕ) → IsOctets (p ++ q) → plan.whole (p ++ q) ≡ Ok w → Begins (plan.fixed p) w

-- What may be written after this much was read: the whole, if the end was found and it is accepted, and else what this much fixes.
abbrev pub beginning_of : {W : Type 0} → Plan W → Observed → W
beginning_of plan seen =
    if seen.ended then result_unwrap_or (plan.whole seen.octets) (plan.fixed seen.octets) else plan.fixed seen.octets

-- the plan with f applied to what is written
abbrev pub plan_map : {W V : Type 0} → (W → V) → Plan W → Plan V
plan_map f plan = record {
  whole = λ content. plan.whole content >>= λ w. Ok (f w);
  fixed = λ front. f (plan.fixed front);
}

-- The texts of both outputs grow as more is read, and are beginnings of the whole texts.
pub record BothGrow (plan : Plan OutputTexts) : Type 0 where
  pub text : Grows (plan_map (λ texts. texts.text) plan)
  pub content : Grows (plan_map (λ texts. texts.content) plan)

-- a call without a content
abbrev pub without_content : {W : Type 0} → W → Plan W
without_content texts = record { whole = λ content. Ok texts; fixed = λ front. texts }

-- ---- by octets of the random input, and then by the content (docs/SPECIFICATION.md "Commands", what is read first)

-- What templates and keys settle: how many random octets are drawn, and the plan by these octets.
pub record Draft (W : Type 0) : Type 0 where
  pub drawn : ℕ
  pub plan : List ℕ → Plan W

abbrev pub without_random : {W : Type 0} → Plan W → Draft W
without_random plan = record { drawn = 0; plan = λ octets. plan }

-- how many are drawn, which is 0 after a refusal
abbrev pub drawn_of : {W : Type 0} → Result (Draft W) Refusal → ℕ
drawn_of (Ok draft) = draft.drawn
drawn_of (Err r) = 0

-- the plan by the first octets of a random input, or the refusal of the draft, or Random if these octets are too few
abbrev pub plan_from : {W : Type 0} → Result (Draft W) Refusal → List ℕ → Result (Plan W) Refusal
plan_from draft random = do
  d ← draft
  enough ← needs (nat_le d.drawn (length random)) Random
  Ok (d.plan (take d.drawn random))

-- the draft of a plan that draws nothing
abbrev pub by_plan : {W : Type 0} → Result (Plan W) Refusal → Result (Draft W) Refusal
by_plan plan = plan >>= λ p. Ok (without_random p)

-- the draft of a text that is written as a whole, and draws nothing
abbrev pub by_text : {W : Type 0} → Result W Refusal → Result (Draft W) Refusal
by_text answer = answer >>= λ text. Ok (without_random (without_content text))

-- ---- answers (docs/SPECIFICATION.md "Commands", what is left after a refusal)

-- the answer of a plan for a whole content
abbrev pub planned : {W : Type 0} → Result (Plan W) Refusal → List ℕ → Result W Refusal
planned plan content = plan >>= λ p. p.whole content

-- what may be written after this much of the content was read: nothing if there is no plan
abbrev pub begun : Result (Plan OutputTexts) Refusal → Observed → OutputTexts
begun (Ok plan) seen = beginning_of plan seen
begun (Err r) seen = nothing
