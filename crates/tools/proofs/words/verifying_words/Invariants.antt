use Rattle.std.proofs.Common.{◌≡◌, map, string_bytes, take}
use Rattle.tools.specs.Words.{verifying_words}
use Rattle.tools.proofs.words.verifying_words.Given as goal

-- the words so far are those of the keys and of the words that were copied
abbrev pub invariant-loop-word : goal.invariant-loop-word
invariant-loop-word l = map string_bytes l.words.items ≡ verifying_words l.keys (take l.word-index (map string_bytes l.rest))
