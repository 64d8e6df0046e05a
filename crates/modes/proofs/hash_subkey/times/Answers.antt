use Rattle.std.proofs.Common.{bit_xor, ap, ◌∙◌}
use Rattle.std.specs.Int.Bits.{xor_zero_r}
use Rattle.modes.specs.Ghash.{block_product}
use Rattle.modes.proofs.BlockProduct.{product_zero}
use Rattle.modes.proofs.hash_subkey.times.Goals as goal

pub returns : goal.returns
returns c =
    let product = block_product c.args.block c.args.h in
    c.sum_of_products.ensures ∙ ap (bit_xor product) (product_zero c.polynomial_laws.ensures 0) ∙ xor_zero_r product
