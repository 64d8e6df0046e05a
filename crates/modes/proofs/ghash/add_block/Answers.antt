use Rattle.std.proofs.Common.{bit_xor, ap, ◌∙◌}
use Rattle.modes.specs.Ghash.{block_product}
use Rattle.modes.proofs.BlockProduct.{one_more}
use Rattle.modes.proofs.ghash.add_block.Goals as goal

pub returns : goal.returns
returns c xs e =
    c.times.ensures
    ∙ ap (λ s. block_product (bit_xor s c.args.x) c.args.subkey.now.h) e
    ∙ one_more c.polynomial_laws.ensures c.args.subkey.now.h xs c.args.x
