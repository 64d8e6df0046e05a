-- The devices of a run, each by the option that names it, and what a run read from them and wrote to them.
use Rattle.std.specs.Prelude.{ℕ, Bool, List, [], ◌∷◌, Result, Ok}
use Rattle.std.specs.Iterator.{Count, IsFinite}
use Rattle.octets.specs.declared.refusal.Refusal.{Refusal}
use Rattle.octets.specs.Devices.{Observed, InputMembers, observed, appended, AppendsPrefixOf, IsPossibleInput}
use Rattle.octets.specs.Faults.{Counts, counts}
use Rattle.octets.specs.Outcomes.{◌>>=◌}
use Rattle.octets.specs.Plan.{OutputTexts}
use Rattle.jose.specs.declared.ports.Inputs.{Inputs}
use Rattle.jose.specs.declared.ports.Outputs.{Outputs}

-- ---- whole lists (docs/SPECIFICATION.md "Commands")

-- all octets of each input
pub record InputTexts : Type 0 where
  -- of `-i`, or of `-s` for `jws sig`
  pub text : List ℕ
  -- of `-I`
  pub content : List ℕ
  -- of `-k`
  pub keys : List ℕ
  -- of `-R`
  pub random : List ℕ

-- the octets of `-o`
abbrev pub as_text : List ℕ → OutputTexts
as_text octets = record { text = octets; content = [] }

-- the octets of `-O`
abbrev pub as_content : List ℕ → OutputTexts
as_content octets = record { text = []; content = octets }

-- an answer that is written to `-o`
abbrev pub on_text : Result (List ℕ) Refusal → Result OutputTexts Refusal
on_text answer = answer >>= λ octets. Ok (as_text octets)

-- an answer that is written to `-O`
abbrev pub on_content : Result (List ℕ) Refusal → Result OutputTexts Refusal
on_content answer = answer >>= λ octets. Ok (as_content octets)

-- ---- what a run read (docs/SPECIFICATION.md "Devices")

pub record ObservedInputs : Type 0 where
  pub text : Observed
  pub content : Observed
  pub keys : Observed
  pub random : Observed

abbrev pub observed_inputs : {D : Type 0} → (D → List ℕ) → (D → Bool) → Inputs D → Inputs D → ObservedInputs
observed_inputs consumed is_at_end old new = record {
  text = observed consumed is_at_end old.text new.text;
  content = observed consumed is_at_end old.content new.content;
  keys = observed consumed is_at_end old.keys new.keys;
  random = observed consumed is_at_end old.random new.random;
}

-- what a run saw of its inputs
abbrev pub seen_of : {D : Type 0} → InputMembers D → Inputs D → Inputs D → ObservedInputs
seen_of input old new = observed_inputs input.consumed input.is_at_end old new

-- the whole inputs may be these
pub record ArePossibleInputs (seen : ObservedInputs) (inputs : InputTexts) : Type 0 where
  pub text : IsPossibleInput seen.text inputs.text
  pub content : IsPossibleInput seen.content inputs.content
  pub keys : IsPossibleInput seen.keys inputs.keys
  pub random : IsPossibleInput seen.random inputs.random

-- each input except the random one ends or fails after finitely many octets
pub record AreFinite {D : Type 0} (remaining : D → Count) (inputs : Inputs D) : Type 0 where
  pub text : IsFinite (remaining inputs.text)
  pub content : IsFinite (remaining inputs.content)
  pub keys : IsFinite (remaining inputs.keys)

-- ---- what a run wrote (docs/SPECIFICATION.md "Devices")

abbrev pub written_texts : {D : Type 0} → (D → List ℕ) → Outputs D → Outputs D → OutputTexts
written_texts written old new = record {
  text = appended (written old.text) (written new.text);
  content = appended (written old.content) (written new.content);
}

-- each output has grown by a beginning of its text (docs/SPECIFICATION.md "Commands", "What is left after a refusal")
pub record AppendPrefixesOf {D : Type 0} (written : D → List ℕ) (texts : OutputTexts) (old new : Outputs D) : Type 0 where
  pub text : AppendsPrefixOf texts.text (written old.text) (written new.text)
  pub content : AppendsPrefixOf texts.content (written old.content) (written new.content)

-- ---- failures (docs/SPECIFICATION.md "Devices")

-- the counts of the inputs, and those of the outputs
abbrev pub input_counts : {D : Type 0} → (D → ℕ) → Inputs D → Inputs D → List Counts
input_counts failures old new =
    counts failures old.text new.text ∷ counts failures old.content new.content ∷ counts failures old.keys new.keys ∷ counts failures old.random new.random ∷ []

abbrev pub output_counts : {D : Type 0} → (D → ℕ) → Outputs D → Outputs D → List Counts
output_counts failures old new = counts failures old.text new.text ∷ counts failures old.content new.content ∷ []
