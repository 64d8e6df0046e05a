use Rattle.std.proofs.Common.{◌≡◌, length, map}
use Rattle.jose.specs.Code.Rows.{option_entry}
use Rattle.tools.specs.CommandViews.{walk_view}
use Rattle.tools.specs.CommandWords.{missing_fault}
use Rattle.tools.proofs.command_words.missing.Given as goal

-- the options that are left give the same
abbrev pub invariant-loop-rest : goal.invariant-loop-rest
invariant-loop-rest l =
    missing_fault (map option_entry l.rest) (walk_view l.walk).given ≡ missing_fault (map option_entry l.options) (walk_view l.walk).given

abbrev pub decreases-loop-rest : goal.decreases-loop-rest
decreases-loop-rest l = length l.rest
