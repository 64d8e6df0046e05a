use Rattle.std.proofs.Common.{◌≡◌, ℕ, ◌-◌, ◌≤◌, List, ◌++◌, length, take, drop}
use Rattle.modes.specs.Ctr.{ctr}
use Rattle.modes.specs.Code.Views.{HoldsKeyStream}
use Rattle.modes.proofs.ctr.KeyStream.apply.Given as goal

abbrev pub invariant-loop-at : goal.invariant-loop-at
invariant-loop-at g l = record {
  within : l.at ≤ length l.initial.octets;
  rest : drop l.at l.octets ≡ drop l.at l.initial.octets;
  fed : (f p : List ℕ) → HoldsKeyStream l.initial.self (g.B.Block.encrypted l.cipher) f p
      → HoldsKeyStream l.self (g.B.Block.encrypted l.cipher) f (p ++ take l.at l.initial.octets);
  text : (f p : List ℕ) → HoldsKeyStream l.initial.self (g.B.Block.encrypted l.cipher) f p
      → ctr (g.B.Block.encrypted l.cipher) f (p ++ take l.at l.initial.octets) ≡ ctr (g.B.Block.encrypted l.cipher) f p ++ take l.at l.octets;
}

abbrev pub decreases-loop-at : goal.decreases-loop-at
decreases-loop-at g l = length l.initial.octets - l.at
