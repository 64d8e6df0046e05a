use Rattle.std.proofs.Common.{ap, ◌∙◌}
use Rattle.std.specs.Int.{w128, to_be_bytes}
use Rattle.modes.specs.Ghash.{ghash_number, numbers, zero_filled, ghash}
use Rattle.modes.proofs.ghash.Ghash.finish.Goals as goal

pub returns : goal.returns
unfolding ghash
returns c h x f =
    let padded = c.pad.ensures h x f in
    c.to_be_bytes.ensures
    ∙ ap (to_be_bytes w128) (padded.sum ∙ ap (λ k. ghash_number k (numbers (zero_filled x))) padded.key)
