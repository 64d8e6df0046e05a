-- The last line of a tool, and its status.
use Rattle.std.specs.Prelude.{◌≡◌, ℕ, List, [], ◌∷◌, ◌++◌, codes, Result, Ok, Err, OnOk, IfErr}
use Rattle.std.specs.Str.{byte}
use Rattle.octets.specs.declared.refusal.Refusal.TheVariants.{Usage}
use Rattle.octets.specs.Devices.{AppendsPrefixOf}
use Rattle.octets.specs.Refusals.{refusal_text}
use Rattle.tools.specs.declared.cause.Cause.{Cause}
use Rattle.tools.specs.declared.cause.Cause.TheVariants.{Refused, BadKeys, OtherNumber, SignAlike}
use Rattle.tools.specs.declared.words.Tool.TheVariants.{VerifyAll}
use Rattle.tools.specs.Words.{usage_text}

abbrev pub status_of : Result (Unit {0}) Cause → ℕ
status_of (Ok done) = 0
status_of (Err cause) = 1

-- The beginning of a tool's line: all of it, or what stands before the refusal's number and name. A refusal that is not about the keys is
-- reported as jose reports it.
abbrev pub line_head : Cause → List ℕ
line_head (Refused Usage) = usage_text VerifyAll
line_head (Refused refusal) = codes "jose: "
line_head (BadKeys refusal) = codes "jose-verify-all: not every key is good: jose: "
line_head OtherNumber = codes "jose-verify-all: the number of keys is another one"
line_head SignAlike = codes "jose-verify-all: two of the keys make the same signatures"

-- the refusal's number and name, if the line has one
abbrev pub line_end : Cause → List ℕ
line_end (Refused Usage) = []
line_end (Refused refusal) = refusal_text refusal
line_end (BadKeys refusal) = refusal_text refusal
line_end cause = []

abbrev pub report_line : Cause → List ℕ
report_line cause = line_head cause ++ (line_end cause ++ byte "\n" ∷ [])

-- The outcome is the status. After a refusal its line was written, as far as the output accepted it.
pub record IsReported {O : Type 0} (written : O → List ℕ) (outcome : Result (Unit {0}) Cause) (status : ℕ) (before after : O) : Type 0 where
  pub is : status ≡ status_of outcome
  pub quiet : OnOk outcome (after ≡ before)
  pub line : IfErr outcome (λ cause. AppendsPrefixOf (report_line cause) (written before) (written after))
