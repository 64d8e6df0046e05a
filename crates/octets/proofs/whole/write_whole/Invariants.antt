use Rattle.std.proofs.Common.{◌≡◌, ◌≤◌, ◌-◌, ◌++◌, length, take}
use Rattle.octets.proofs.whole.write_whole.Given as goal

abbrev pub invariant-writes : goal.invariant-writes
invariant-writes g l =
    let out = g.O.Output in record {
      in_range : l.written ≤ length l.octets;
      written : out.written l.out ≡ out.written l.fn.out ++ take l.written l.octets;
      works : out.failures l.out ≡ out.failures l.fn.out;
      endings : out.endings l.out ≡ out.endings l.fn.out;
      untouched : length l.octets ≡ 0 → l.out ≡ l.fn.out;
    }

abbrev pub decreases-writes : goal.decreases-writes
decreases-writes g l = length l.octets - l.written
