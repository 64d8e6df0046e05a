use Rattle.std.proofs.Common.{◌≡◌, ℕ, suc, ◌<◌, length}
use Rattle.modes.specs.Cbc.{block, chained}
use Rattle.modes.proofs.cbc.encrypt_blocks.Given as goal

abbrev pub invariant-loop-i : goal.invariant-loop-i
invariant-loop-i g l = record {
  last : l.previous ≡ chained (g.B.Block.encrypted l.cipher) l.initial.previous l.blocks l.i;
  long : length l.previous ≡ 16;
  text : (j : ℕ) → j < l.i → block l.out j ≡ chained (g.B.Block.encrypted l.cipher) l.initial.previous l.blocks (suc j);
}
