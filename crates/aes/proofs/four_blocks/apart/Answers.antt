use Rattle.std.proofs.Common.{[], ◌∷◌, ap₂, ◌∙◌, arith}
use Rattle.std.specs.List.{range_with_len}
use Rattle.std.proofs.lemmas.Simd.{pick_l_left, pick_l-range_with_len}
use Rattle.aes.proofs.four_blocks.apart.Goals as goal

pub returns : goal.returns
returns c = ap₂ (λ p q. p ∷ q ∷ [])
    (pick_l_left 0 c.args.x c.args.x 32 (range_with_len 0 16) c.fits-x.0 tt ∙ pick_l-range_with_len 0 c.args.x 0 16 (omega arith))
    (pick_l_left 0 c.args.x c.args.x 32 (range_with_len 16 16) c.fits-x.0 tt ∙ pick_l-range_with_len 0 c.args.x 16 16 (omega arith))
