use Rattle.std.proofs.Common.{bit_xor, ap, ◌∙◌, ◌+◌, ◌*◌}
use Rattle.aes.specs.State.{at, word}
use Rattle.aes.specs.Code.Blocks.{block}
use Rattle.aes.proofs.Squares.{at-square}
use Rattle.aes.proofs.Vectors.{same_squares}
use Rattle.aes.proofs.state.add_round_key.Goals as goal

pub returns : goal.returns
returns g c i h =
    let x = block c.args.x i in
    let w = c.args.round_keys.now in
    let m = c.args.round in
    c.sum.ensures i h
    ∙ same_squares _ _ (λ r l hr hl. ap (bit_xor (at x r l)) (ap (λ s. at s r l) (c.repeated.ensures i h ∙ c.round_key.ensures) ∙ at-square (λ r l. word w (4 * m + l) r) r l hr hl))
