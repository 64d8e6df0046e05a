use Rattle.std.proofs.Common.{◌+◌, ◌%◌, slice_index, bit_xor, arith}
use Rattle.std.proofs.lemmas.List.FromFn.{fill_by_all}
use Rattle.trials.specs.Toy.{turned}
use Rattle.trials.proofs.modes_tests.pieces.turn.Goals as goal

pub returns : goal.returns
unfolding turned
returns c =
    fill_by_all (λ k. bit_xor (slice_index c.args.b.now ((k + c.args.n) % 16)) 1) c.loop-i.out 16 0 c.loop-i.invariant.room
    (λ k l. c.loop-i.invariant.below k (omega (arith, l)))
