use Rattle.std.proofs.Common.{◌≡◌, ◌*◌, map, take}
use Rattle.std.specs.List.{concat, range_with_len}
use Rattle.prf.specs.Pbkdf2.{derived_block}
use Rattle.prf.proofs.key_derivation.pbkdf2.Given as goal

abbrev pub invariant-loop-i : goal.invariant-loop-i
invariant-loop-i g l =
    let salt = concat (map (λ part. part.now) l.fn.salt) in
    take (l.i * l.len) l.derived ≡ concat (map (derived_block g.H.Hash.function l.password salt l.count) (range_with_len 1 l.i))
