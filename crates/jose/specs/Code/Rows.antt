-- The rows of the table in the code, as contracts see them.
use Rattle.std.specs.Borrow.{Bor}
use Rattle.std.specs.Prelude.{map, Option, option_map}
use Rattle.jose.specs.Commands.{CommandEntry, OptionEntry, Takes, flag, required, optional, default}
use Rattle.jose.specs.declared.words.table.Kind.{Kind}
use Rattle.jose.specs.declared.words.table.Kind.TheVariants.{Flag, Required, Optional, Default}
use Rattle.jose.specs.declared.words.table.OptionRow.{OptionRow}
use Rattle.jose.specs.declared.words.table.CommandRow.{CommandRow}

abbrev pub takes_of : Kind → Takes
takes_of Flag = flag
takes_of Required = required
takes_of Optional = optional
takes_of (Default text) = default text.now

abbrev pub option_entry : OptionRow → OptionEntry
option_entry row = record { letter = row.0; name = row.1.now; takes = takes_of row.2; role = row.3 }

abbrev pub entry_of : Option (Bor OptionRow) → Option OptionEntry
entry_of = option_map (λ row. option_entry row.now)

abbrev pub command_entry : CommandRow → CommandEntry
command_entry row = record { command = row.command; noun = row.noun.now; verb = row.verb.now; options = map option_entry row.options.now }
