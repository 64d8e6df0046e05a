use Rattle.std.proofs.Common.{◌≡◌, length, map, find}
use Rattle.jose.specs.Code.Rows.{option_entry}
use Rattle.jose.specs.Invocations.{settings_view}
use Rattle.tools.specs.CommandLines.{is_same_file}
use Rattle.tools.proofs.command_lines.same_file.Given as goal

-- the options that are left give the same
abbrev pub invariant-loop-rest : goal.invariant-loop-rest
invariant-loop-rest l =
    let test = is_same_file (settings_view l.invocation.options.items) l.letter l.value in
    find test (map option_entry l.rest) ≡ find test (map option_entry l.options)

abbrev pub decreases-loop-rest : goal.decreases-loop-rest
decreases-loop-rest l = length l.rest
