use Rattle.std.proofs.Common.{◌≡◌, ℕ, ◌+◌, ◌-◌, ◌<◌, ◌≤◌, List, length}
use Rattle.modes.specs.Cbc.{block}
use Rattle.modes.specs.Ctr.{counter_block}
use Rattle.modes.proofs.ctr.KeyStream.write_counters.Given as goal

abbrev pub invariant-loop-i : goal.invariant-loop-i
invariant-loop-i l = record {
  counter : (f : List ℕ) (n : ℕ) → length f ≡ 16 → l.initial.self.counter ≡ counter_block f n → l.self.counter ≡ counter_block f (n + (l.i - l.first));
  blocks : (f : List ℕ) (n : ℕ) → length f ≡ 16 → l.initial.self.counter ≡ counter_block f n
      → (j : ℕ) → l.first ≤ j → j < l.i → block l.self.blocks j ≡ counter_block f (n + (j - l.first));
  used : l.self.used ≡ l.initial.self.used;
}
