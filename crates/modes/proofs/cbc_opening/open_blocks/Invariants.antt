use Rattle.std.proofs.Common.{◌≡◌, ℕ, ◌/◌, ◌<◌, ◌≤◌, length}
use Rattle.modes.specs.Cbc.{block}
use Rattle.modes.specs.Code.Opening.{opened_block}
use Rattle.modes.proofs.cbc_opening.open_blocks.Given as goal

abbrev pub invariant-loop-end : goal.invariant-loop-end
invariant-loop-end g l = record {
  some : 0 < l.end;
  within : l.end ≤ length l.initial.buf / 16;
  before : (i : ℕ) → i < l.end → block l.buf i ≡ block l.initial.buf i;
  opened : (i : ℕ) → l.end ≤ i → i < length l.initial.buf / 16 → block l.buf i ≡ opened_block (g.B.Block.decrypted l.cipher) l.iv l.initial.buf i;
}

abbrev pub decreases-loop-end : goal.decreases-loop-end
decreases-loop-end g l = l.end
