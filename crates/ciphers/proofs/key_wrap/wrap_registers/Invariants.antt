use Rattle.std.proofs.Common.{ℕ, List}
use Rattle.ciphers.specs.Code.Views.{IsRow}
use Rattle.ciphers.proofs.key_wrap.wrap_registers.Given as goal

abbrev pub invariant-loop-t : goal.invariant-loop-t
invariant-loop-t g l = (p : List ℕ) → IsRow (g.B.Block.encrypted l.kek) p 0 l.initial.a l.initial.r → IsRow (g.B.Block.encrypted l.kek) p l.t l.a l.r
