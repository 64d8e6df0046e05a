use Rattle.std.proofs.Common.{◌≡◌, ℕ, List, [], take}
use Rattle.prf.specs.Pbkdf2.{iterate, derived_block}
use Rattle.prf.specs.Code.Views.{HoldsHmac}
use Rattle.prf.proofs.key_derivation.add_iterates.Given as goal

abbrev pub invariant-iterates : goal.invariant-iterates
invariant-iterates g l =
    let f = g.H.Hash.function in
    (password salt : List ℕ) (i : ℕ) → HoldsHmac f g.H.Hash.holds l.keyed password [] → l.fn.block ≡ iterate f password salt i 1
    → (take l.len l.last ≡ iterate f password salt i l.j) × (l.block ≡ derived_block f password salt l.j i)
