use Rattle.std.proofs.Common.{[], ◌∷◌, ◌++◌, bit_xor, ap, ◌∙◌}
use Rattle.modes.specs.Ghash.{block_product}
use Rattle.modes.proofs.BlockProduct.{one_more}
use Rattle.modes.proofs.ghash.add_both.Goals as goal

pub returns : goal.returns
returns c xs e =
    let h = c.args.subkey.now.h in
    let laws = c.polynomial_laws.ensures in
    c.times_both.ensures
    ∙ ap (λ s. block_product (bit_xor s c.args.y) h)
    (ap (λ s. block_product (bit_xor s c.args.x) h) e ∙ one_more laws h xs c.args.x)
    ∙ one_more laws h (xs ++ c.args.x ∷ []) c.args.y
