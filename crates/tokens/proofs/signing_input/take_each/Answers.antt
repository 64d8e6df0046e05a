use Rattle.std.proofs.Common.{◌≡◌, ◌+◌, ◌<◌, suc, ℕ, length, slice_set, arith, subst}
use Rattle.tokens.proofs.SigningInputs.Each.{HoldFirst, none_taken, one_taken, all_taken}
use Rattle.tokens.proofs.signing_input.take_each.Goals as goal

pub loop-input-init : goal.loop-input-init
loop-input-init g c starts text h = none_taken g.S.SigningInput.has_taken c.args.inputs.now starts text c.args.piece.now h

pub loop-input-preserved : goal.loop-input-preserved
loop-input-preserved g c starts text h =
    let has_taken = g.S.SigningInput.has_taken in
    let n : ℕ = c.loop-input.input-index in
    let lt : n < length c.loop-input.inputs = omega (arith, c.loop-input-test.true, c.loop-input.auto.inputs, c.loop-input.auto.input-index-end) in
    let more : suc n ≡ n + 1 = omega arith in
    subst (λ m. HoldFirst has_taken m (slice_set c.loop-input.inputs n c.take.new.self) starts text c.args.piece.now) more
    (one_taken has_taken n c.loop-input.inputs starts text c.args.piece.now c.input-item.result c.take.new.self lt c.take.ensures
    (c.loop-input.invariant starts text h))

pub returns-clause-taken : goal.returns-clause-taken
returns-clause-taken g c starts text h =
    let has_taken = g.S.SigningInput.has_taken in
    let all : c.loop-input.input-index ≡ length c.loop-input.inputs =
    omega (arith, c.loop-input-test.false, c.loop-input.auto.inputs, c.loop-input.auto.input-index-end) in
    all_taken has_taken c.loop-input.inputs starts text c.args.piece.now
    (subst (λ m. HoldFirst has_taken m c.loop-input.inputs starts text c.args.piece.now) all (c.loop-input.invariant starts text h))
