use Rattle.std.proofs.Common.{◌≡◌, ◌-◌, ◌<◌}
use Rattle.aes.specs.InverseCipher.{inverse_shift_rows, inverse_sub_bytes, undone, inverse_cipher}
use Rattle.aes.specs.Code.Blocks.{block}
use Rattle.aes.specs.Code.Kept.{summed}
use Rattle.aes.proofs.cipher.inverse_cipher.Given as goal

abbrev pub invariant-loop-round : goal.invariant-loop-round
invariant-loop-round l = record {
  above : 0 < l.round;
  rest : undone l.round_keys (l.round - 1) (inverse_sub_bytes (inverse_shift_rows (summed (block l.state 0)))) ≡ inverse_cipher l.nr l.round_keys l.b;
}
