use Rattle.std.proofs.Common.{ℕ, List}
use Rattle.tokens.specs.Code.SigningInputs.{InputStart, HoldEach}
use Rattle.tokens.proofs.SigningInputs.Each.{HoldFirst}
use Rattle.tokens.proofs.signing_input.take_each.Given as goal

-- the inputs before the index have absorbed the piece
abbrev pub invariant-loop-input : goal.invariant-loop-input
invariant-loop-input g l =
    let has_taken = g.S.SigningInput.has_taken in
    (starts : List InputStart) (text : List ℕ) → HoldEach has_taken l.initial.inputs starts text
    → HoldFirst has_taken l.input-index l.inputs starts text l.piece
