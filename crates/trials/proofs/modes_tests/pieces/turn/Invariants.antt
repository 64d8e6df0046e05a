use Rattle.std.proofs.Common.{◌≡◌, ℕ, ◌+◌, ◌%◌, ◌<◌, length, slice_index, bit_xor}
use Rattle.trials.proofs.modes_tests.pieces.turn.Given as goal

abbrev pub invariant-loop-i : goal.invariant-loop-i
invariant-loop-i l = record {
  room : length l.out ≡ 16;
  below : (k : ℕ) → k < l.i → slice_index l.out k ≡ bit_xor (slice_index l.b ((k + l.n) % 16)) 1;
}
