use Rattle.std.proofs.Common.{◌≡◌, ℕ, ◌*◌, List, ◌++◌}
use Rattle.modes.specs.Ghash.{ghash_number}
use Rattle.modes.proofs.Numbers.{numbers_to}
use Rattle.modes.proofs.ghash.add_blocks.Given as goal

abbrev pub invariant-loop-i : goal.invariant-loop-i
invariant-loop-i l = (xs : List ℕ) → l.sum ≡ ghash_number l.subkey.h xs → l.total ≡ ghash_number l.subkey.h (xs ++ numbers_to l.blocks (2 * l.i))
