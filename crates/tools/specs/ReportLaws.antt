-- What a terminal shows of the last line of jose-set and of jose-look.
use Rattle.std.specs.Prelude.{◌≡◌, ℕ, true, List}
use Rattle.std.specs.List.{list_all}
use Rattle.tools.specs.declared.tool_cause.ToolCause.{ToolCause}
use Rattle.tools.specs.Printing.{is_printable, is_shown, printable}
use Rattle.tools.specs.ToolReports.{NamedWords, tool_line}

-- ---- printable lines (docs/SPECIFICATION.md "Tools")

-- The printable form of a text has printable ASCII alone.
abbrev pub TextsArePrinted : Type 0
TextsArePrinted = (text : List ℕ) → list_all is_printable (printable text) ≡ true

-- The line has printable ASCII and line feeds alone, whatever words it names.
abbrev pub LinesArePrinted : Type 0
LinesArePrinted = (words : NamedWords) (cause : ToolCause) → list_all is_shown (tool_line words cause) ≡ true
