use Rattle.std.proofs.Common.{◌≡◌, ◌*◌}
use Rattle.octets.proofs.Sums.{summed}
use Rattle.octets.proofs.lanes.xor_into.Given as goal

abbrev pub invariant-loop-i : goal.invariant-loop-i
invariant-loop-i l = l.octets ≡ summed l.fn.octets l.other (32 * l.i)

abbrev pub invariant-loop-i-2 : goal.invariant-loop-i-2
invariant-loop-i-2 l = l.octets ≡ summed l.fn.octets l.other l.i
