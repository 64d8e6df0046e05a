use Rattle.std.proofs.Common.{◌≡◌, drop}
use Rattle.tokens.specs.Signers.{are_distinct}
use Rattle.tokens.proofs.verify.signers.are_distinct.Given as goal

-- the blocks that are left are distinct exactly if all are
abbrev pub invariant-loop-i : goal.invariant-loop-i
invariant-loop-i l = are_distinct (drop l.i l.blocks) ≡ are_distinct l.blocks
