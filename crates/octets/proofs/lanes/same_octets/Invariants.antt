use Rattle.std.proofs.Common.{◌*◌}
use Rattle.octets.proofs.Differences.{SoFar}
use Rattle.octets.proofs.lanes.same_octets.Given as goal

abbrev pub invariant-loop-i : goal.invariant-loop-i
invariant-loop-i l = SoFar l.difference l.a l.b (32 * l.i)

abbrev pub invariant-loop-i-2 : goal.invariant-loop-i-2
invariant-loop-i-2 l = SoFar l.difference l.a l.b l.i
