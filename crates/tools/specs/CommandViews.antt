use Rattle.std.specs.Borrow.{Bor}
use Rattle.std.specs.Prelude.{◌≡◌, Bool, true, false, List, map, Option, option_map, Result, Ok, Err}
use Rattle.jose.specs.Commands.{OptionEntry}
use Rattle.jose.specs.Invocations.{Settings}
use Rattle.jose.specs.Code.Rows.{option_entry}
use Rattle.jose.specs.declared.words.table.OptionRow.{OptionRow}
use Rattle.tools.specs.CommandWords.{Walk}
use Rattle.tools.specs.declared.command_words.Given.{Given}
use Rattle.tools.specs.declared.command_words.Walk.{Walk as CodeWalk}
use Rattle.tools.specs.declared.command_words.WordFault.{WordFault}
use Rattle.tools.specs.declared.command_words.WordFault.TheVariants.{Memory}

abbrev pub given_view : List Given → Settings
given_view = map (λ given. (given.letter, given.value.now))

abbrev pub walk_view : CodeWalk → Walk
walk_view walk = record { given = given_view walk.given.items; waiting = walk.waiting; is_ended = walk.is_ended }

abbrev pub is_memory : WordFault → Bool
is_memory Memory = true
is_memory fault = false

-- The result is the answer, unless memory ran out.
abbrev pub GivesUnlessMemory : {X Y : Type 0} → (X → Y) → Result X WordFault → Result Y WordFault → Type 0
GivesUnlessMemory view (Ok x) answer = answer ≡ Ok (view x)
GivesUnlessMemory view (Err fault) answer = is_memory fault ≡ false → answer ≡ Err fault

abbrev pub found_entry : Option (Bor OptionRow) → Option OptionEntry
found_entry = option_map (λ row. option_entry row.now)
