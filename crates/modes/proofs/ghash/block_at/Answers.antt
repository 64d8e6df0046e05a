use Rattle.std.proofs.Common.{ap, ◌∙◌}
use Rattle.std.specs.Int.{w128, from_be_bytes}
use Rattle.octets.proofs.Lemmas.{chunk_is}
use Rattle.modes.proofs.ghash.block_at.Goals as goal

pub returns : goal.returns
returns c = c.from_be_bytes.ensures ∙ ap (from_be_bytes w128) (c.copy_from_slice.ensures.after ∙ chunk_is 16 c.args.blocks.now c.args.i)
