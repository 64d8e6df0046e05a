use Rattle.std.proofs.Common.{◌≡◌, ◌+◌, map, length, string_bytes}
use Rattle.jose.specs.Code.Rows.{option_entry}
use Rattle.tools.specs.CommandViews.{walk_view}
use Rattle.tools.specs.CommandWords.{words_read, start}
use Rattle.tools.proofs.command_words.words_read.Given as goal

-- the words that are left give the same
abbrev pub invariant-loop-rest : goal.invariant-loop-rest
invariant-loop-rest l = record {
  count : l.at + length l.rest ≡ length l.words;
  same : words_read (map option_entry l.options) l.at (map string_bytes l.rest) (walk_view l.walk)
      ≡ words_read (map option_entry l.options) 0 (map string_bytes l.words) start;
}

abbrev pub decreases-loop-rest : goal.decreases-loop-rest
decreases-loop-rest l = length l.rest
