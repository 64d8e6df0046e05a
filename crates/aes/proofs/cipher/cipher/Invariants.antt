use Rattle.std.proofs.Common.{◌≡◌, ◌-◌}
use Rattle.aes.specs.Cipher.{state_after}
use Rattle.aes.specs.Code.Blocks.{block}
use Rattle.aes.specs.Code.Kept.{plain}
use Rattle.aes.proofs.cipher.cipher.Given as goal

abbrev pub invariant-loop-round : goal.invariant-loop-round
invariant-loop-round l = plain (block l.state 0) ≡ state_after l.round_keys l.b (l.round - 1)
