use Rattle.std.proofs.Common.{◌≡◌, map, length}
use Rattle.jose.specs.Code.Rows.{option_entry}
use Rattle.tools.specs.CommandViews.{walk_view}
use Rattle.tools.specs.CommandWords.{letters_read}
use Rattle.tools.proofs.command_words.letters_read.Given as goal

-- the letters that are left give the same
abbrev pub invariant-loop-rest : goal.invariant-loop-rest
invariant-loop-rest l =
    letters_read (map option_entry l.options) l.rest (walk_view l.walk) ≡ letters_read (map option_entry l.options) l.letters (walk_view l.initial.walk)

abbrev pub decreases-loop-rest : goal.decreases-loop-rest
decreases-loop-rest l = length l.rest
