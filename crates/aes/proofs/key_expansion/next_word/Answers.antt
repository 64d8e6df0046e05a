use Rattle.std.proofs.Common.{◌-◌, slice_index, ap₂, bit_xor, ◌∙◌}
use Rattle.aes.specs.State.{word}
use Rattle.aes.proofs.KeyWords.{transformed-same}
use Rattle.aes.proofs.key_expansion.next_word.Goals as goal

pub returns : goal.returns
returns c r h =
    c.sum.ensures r h
    ∙ ap₂ bit_xor (c.word-2.ensures r h) (c.transform-last.ensures r h
    ∙ transformed-same c.args.nk c.args.i (slice_index c.word.result) (word c.args.round_keys.now (c.args.i - 1)) r h c.word.ensures)
