use Rattle.std.proofs.Common.{◌≡◌, ℕ, ◌+◌, ◌-◌, ◌*◌, ◌≤◌, ◌<◌, [], slice_index_or}
use Rattle.aes.specs.InverseCipher.{inverse_shift_rows, inverse_sub_bytes, undone, inverse_cipher}
use Rattle.aes.specs.Code.Blocks.{block}
use Rattle.aes.specs.Code.Kept.{summed}
use Rattle.aes.proofs.four_blocks.inverse_cipher_4.Given as goal

abbrev pub invariant-loop-round : goal.invariant-loop-round
invariant-loop-round l = record {
  above : 0 < l.round;
  front : (i : ℕ) → 16 * i + 16 ≤ 32
      → undone l.round_keys (l.round - 1) (inverse_sub_bytes (inverse_shift_rows (summed (block l.front i)))) ≡ inverse_cipher l.nr l.round_keys (slice_index_or l.blocks i []);
  back : (i : ℕ) → 16 * i + 16 ≤ 32
      → undone l.round_keys (l.round - 1) (inverse_sub_bytes (inverse_shift_rows (summed (block l.back i)))) ≡ inverse_cipher l.nr l.round_keys (slice_index_or l.blocks (2 + i) []);
}
