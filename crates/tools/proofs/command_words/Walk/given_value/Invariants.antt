use Rattle.std.proofs.Common.{◌≡◌, length}
use Rattle.tools.specs.CommandViews.{given_view}
use Rattle.jose.specs.Invocations.{value_at}
use Rattle.tools.proofs.command_words.Walk.given_value.Given as goal

-- those that are left give the same
abbrev pub invariant-loop-rest : goal.invariant-loop-rest
invariant-loop-rest l = value_at l.letter (given_view l.rest) ≡ value_at l.letter (given_view l.self.given.items)

abbrev pub decreases-loop-rest : goal.decreases-loop-rest
decreases-loop-rest l = length l.rest
