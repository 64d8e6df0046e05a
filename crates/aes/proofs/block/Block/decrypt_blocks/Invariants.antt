use Rattle.std.proofs.Common.{◌*◌}
use Rattle.aes.proofs.Blockwise.{Done}
use Rattle.aes.proofs.block.Block.decrypt_blocks.Given as goal

abbrev pub invariant-loop-n : goal.invariant-loop-n
invariant-loop-n g l = Done (g.Self.Block.decrypted l.self) l.initial.blocks l.blocks (4 * l.n)

abbrev pub invariant-loop-i : goal.invariant-loop-i
invariant-loop-i g l = Done (g.Self.Block.decrypted l.self) l.fn.blocks l.blocks l.i
