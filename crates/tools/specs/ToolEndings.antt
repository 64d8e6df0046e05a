-- The end of a run of jose-set and of jose-look.
use Rattle.std.specs.Prelude.{◌≡◌, ◌⊎◌, ℕ, List, Result, Ok, Err, OnOk, IfErr}
use Rattle.octets.specs.Devices.{AppendsPrefixOf}
use Rattle.tools.specs.declared.tool_cause.ToolCause.{ToolCause}
use Rattle.tools.specs.declared.tool_cause.ToolCause.TheVariants.{Memory}
use Rattle.tools.specs.ToolReports.{NamedWords, tool_line}

abbrev pub tool_status : Result (Unit {0}) ToolCause → ℕ
tool_status (Ok done) = 0
tool_status (Err cause) = 1

-- The outcome is the status. After a refusal its line was written, or that of Memory, as far as the output accepted it.
pub record IsToolReported {O : Type 0} (written : O → List ℕ) (words : NamedWords) (outcome : Result (Unit {0}) ToolCause) (status : ℕ) (before after : O) : Type 0 where
  pub is : status ≡ tool_status outcome
  pub quiet : OnOk outcome (after ≡ before)
  pub line : IfErr outcome (λ cause. AppendsPrefixOf (tool_line words cause) (written before) (written after)
      ⊎ AppendsPrefixOf (tool_line words Memory) (written before) (written after))
