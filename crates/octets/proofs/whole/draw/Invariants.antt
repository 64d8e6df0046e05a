use Rattle.std.proofs.Common.{◌≡◌, ◌≤◌, ◌-◌, ◌++◌, length, take, drop}
use Rattle.octets.proofs.whole.draw.Given as goal

abbrev pub invariant-draws : goal.invariant-draws
invariant-draws g l =
    let input = g.I.Input in record {
      in_range : l.filled ≤ length l.out;
      drawn : input.consumed l.random ≡ input.consumed l.fn.random ++ take l.filled l.out;
      rest : drop l.filled l.out ≡ drop l.filled l.fn.out;
      source : input.source l.random ≡ input.source l.fn.random;
      works : input.failures l.random ≡ input.failures l.fn.random;
      untouched : length l.out ≡ 0 → l.random ≡ l.fn.random;
    }

abbrev pub decreases-draws : goal.decreases-draws
decreases-draws g l = length l.out - l.filled
