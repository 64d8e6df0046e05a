use Rattle.std.proofs.Common.{◌≡◌, ◌-◌}
use Rattle.aes.specs.KeyExpansion.{power_of_x}
use Rattle.aes.proofs.key_expansion.round_constant.Given as goal

abbrev pub invariant-loop-i : goal.invariant-loop-i
invariant-loop-i l = l.power ≡ power_of_x (l._i - 1)
