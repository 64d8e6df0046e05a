use Rattle.std.proofs.Common.{◌≡◌, ◌++◌, take, drop}
use Rattle.prf.specs.Hmac.{xor_each}
use Rattle.prf.proofs.hmac.xor_with.Given as goal

abbrev pub invariant-loop-i : goal.invariant-loop-i
invariant-loop-i l = l.block ≡ xor_each l.pad (take l.i l.fn.block) ++ drop l.i l.fn.block
