use Rattle.std.proofs.Common.{◌≡◌, drop, map}
use Rattle.clap.specs.Words.{app_of}
use Rattle.jose.specs.Reading.{with_options, app_for}
use Rattle.jose.specs.Code.Rows.{option_entry}
use Rattle.jose.proofs.words.options.command_of.Given as goal

-- with the options that are left, the command so far is the whole command
abbrev pub invariant-loop-option : goal.invariant-loop-option
invariant-loop-option l = with_options (map option_entry (drop l.option-index l.options)) (app_of l.command) ≡ app_for (map option_entry l.fn.options)
