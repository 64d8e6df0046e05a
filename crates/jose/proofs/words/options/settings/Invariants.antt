use Rattle.std.proofs.Common.{◌≡◌, ◌++◌, drop, map}
use Rattle.clap.specs.Words.{found_of, rows_of}
use Rattle.jose.specs.Reading.{settings_of}
use Rattle.jose.specs.Code.Rows.{option_entry}
use Rattle.jose.specs.Invocations.{settings_view}
use Rattle.jose.proofs.words.options.settings.Given as goal

-- the settings so far and those of the options that are left are all settings
abbrev pub invariant-loop-option : goal.invariant-loop-option
invariant-loop-option l =
    settings_view l.settings.items ++ settings_of (map option_entry (drop l.option-index l.options)) (rows_of (found_of l.matches))
    ≡ settings_of (map option_entry l.options) (rows_of (found_of l.matches))
