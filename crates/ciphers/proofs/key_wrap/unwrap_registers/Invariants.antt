use Rattle.std.proofs.Common.{ℕ, ◌*◌, ◌/◌, List, length}
use Rattle.octets.specs.Octets.{IsOctets}
use Rattle.ciphers.specs.Code.Views.{IsRow}
use Rattle.ciphers.proofs.Halves.{IsHalf}
use Rattle.ciphers.proofs.key_wrap.unwrap_registers.Given as goal

abbrev pub invariant-loop-t : goal.invariant-loop-t
invariant-loop-t g l = record {
  half : IsHalf l.a;
  octets : IsOctets l.r;
  back : (p : List ℕ) → IsOctets p → IsRow (g.B.Block.encrypted l.kek) p (6 * (length l.initial.r / 8)) l.initial.a l.initial.r
      → IsRow (g.B.Block.encrypted l.kek) p l.t l.a l.r;
  forth : (p : List ℕ) → IsRow (g.B.Block.encrypted l.kek) p l.t l.a l.r
      → IsRow (g.B.Block.encrypted l.kek) p (6 * (length l.initial.r / 8)) l.initial.a l.initial.r;
}
