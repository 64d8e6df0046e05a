use Rattle.std.proofs.Common.{◌≡◌, ℕ, ◌+◌, ◌-◌, ◌*◌, ◌≤◌, [], slice_index_or}
use Rattle.aes.specs.Cipher.{state_after}
use Rattle.aes.specs.Code.Blocks.{block}
use Rattle.aes.specs.Code.Kept.{plain}
use Rattle.aes.proofs.four_blocks.cipher_4.Given as goal

abbrev pub invariant-loop-round : goal.invariant-loop-round
invariant-loop-round l = record {
  front : (i : ℕ) → 16 * i + 16 ≤ 32 → plain (block l.front i) ≡ state_after l.round_keys (slice_index_or l.blocks i []) (l.round - 1);
  back : (i : ℕ) → 16 * i + 16 ≤ 32 → plain (block l.back i) ≡ state_after l.round_keys (slice_index_or l.blocks (2 + i) []) (l.round - 1);
}
