use Rattle.std.proofs.Common.{◌*◌}
use Rattle.std.proofs.lemmas.Simd.{get_or-chunk}
use Rattle.aes.proofs.key_expansion.word.Goals as goal

pub returns : goal.returns
returns c r h = get_or-chunk (4 * c.args.i) 4 c.args.round_keys.now r 0 h
