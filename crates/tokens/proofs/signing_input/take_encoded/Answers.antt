use Rattle.std.proofs.Common.{rules}
use Rattle.tokens.proofs.SigningInputs.Encoded.{nothing_encoded, piece_encoded, all_encoded}
use Rattle.tokens.proofs.signing_input.take_encoded.Goals as goal

pub loop-piece-init : goal.loop-piece-init
loop-piece-init g c = (search rules, nothing_encoded (search rules) c.start-writer.ensures)

pub loop-piece-preserved : goal.loop-piece-preserved
loop-piece-preserved g c =
    let k = c.loop-piece.invariant.1 in
    let feed = c.feed-len.ensures in
    (search rules, piece_encoded k _ _ c.in-Some.ensures.steps.1.0 (feed.waits k.front k.waits) (feed.text k.front k.waits) (λ k. c.take.ensures k.0 k.1))

pub returns : goal.returns
returns g c =
    let k = c.loop-piece.invariant.1 in
    λ f key. all_encoded k _ c.in-None.ensures.steps.1.0 (c.finish-len.ensures.text k.front k.waits) (λ k. c.take-2.ensures k.0 k.1) (f, key)
