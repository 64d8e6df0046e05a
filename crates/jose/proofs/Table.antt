-- The table of commands, searched by two words.
use Rattle.std.proofs.Common.{◌≡◌, arith, Bool, true, List, map, Option, Some, None, option_map, Bor, refl, ◌∙◌, ap, sym, IfSome}
use Rattle.std.specs.List.{find, list_all}
use Rattle.std.specs.Option.{MatchOption}
use Rattle.clap.specs.Words.{Text, is_simple_and_free}
use Rattle.jose.specs.declared.words.table.CommandRow.{CommandRow}
use Rattle.jose.specs.contracts.words.table.CommandPartialEq.TheImpl.{ghosts}
use Rattle.jose.specs.declared.words.table.Command.{Command}
use Rattle.jose.specs.Commands.{CommandEntry, row_of}
use Rattle.jose.specs.Words.{command_named, commands, has_words}
use Rattle.jose.specs.Code.Rows.{command_entry, option_entry}
use Rattle.jose.specs.Reading.{app_for}
use Rattle.jose.proofs.Finding.{found_mapped, found_has}

-- ---- each command of the table is a simple command of `clap`

abbrev is_simple_entry : CommandEntry → Bool
is_simple_entry entry = is_simple_and_free (app_for entry.options)

all_simple : list_all is_simple_entry commands ≡ true
unfolding commands
all_simple = refl

pub found_simple : (noun verb : Text) (found : Option (Bor CommandRow)) → option_map (λ row. command_entry row.now) found ≡ command_named noun verb
    → IfSome found (λ row. is_simple_and_free (app_for (command_entry row.now).options) ≡ true)
found_simple noun verb None here = tt
found_simple noun verb (Some row) here = found_has (has_words noun verb) is_simple_entry commands (command_entry row.now) all_simple (sym here)

-- ---- the row of a command

abbrev pub is_for : Command → CommandRow → Bool
is_for command row = ghosts.eq row.command command

row_is : (command : Command) → find (λ entry. ghosts.eq entry.command command) commands ≡ Some (row_of command)
unfolding commands
row_is command = grind arith

by_entry : (found : Option (Bor CommandRow)) (entry : CommandEntry) → option_map (λ row. command_entry row.now) found ≡ Some entry
    → MatchOption found ⊥ (λ row. map option_entry row.now.options.now ≡ entry.options)
by_entry None entry is = cc
by_entry (Some row) entry is = let same : command_entry row.now ≡ entry = cc in ap (λ (e : CommandEntry). e.options) same

-- A row is found, and its options are those of the command.
pub options_found : (command : Command) (rows : List CommandRow) (found : Option (Bor CommandRow)) → map command_entry rows ≡ commands
    → option_map (λ row. row.now) found ≡ find (is_for command) rows
    → MatchOption found ⊥ (λ row. map option_entry row.now.options.now ≡ (row_of command).options)
options_found command rows found table here =
    by_entry found (row_of command) (found_mapped (λ entry. ghosts.eq entry.command command) command_entry rows commands found table here ∙ row_is command)
