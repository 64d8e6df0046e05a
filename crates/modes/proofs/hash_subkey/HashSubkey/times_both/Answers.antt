use Rattle.std.proofs.Common.{◌<◌, ◌^◌, bit_xor, ap, sym, ◌∙◌, arith}
use Rattle.modes.specs.Ghash.{block_product}
use Rattle.modes.proofs.BlockProduct.{product_linear}
use Rattle.modes.proofs.Squares.{by_square}
use Rattle.modes.proofs.hash_subkey.HashSubkey.times_both.Goals as goal

pub returns : goal.returns
returns c =
    let a = c.args.a in
    let b = c.args.b in
    let k = c.args.self.now in
    let laws = c.polynomial_laws.ensures in
    let small : k.h < 2 ^ 128 = omega arith in
    let small_a : a < 2 ^ 128 = omega arith in
    c.sum_of_products.ensures
    ∙ ap (λ p. bit_xor p (block_product b k.h)) (ap (block_product a) k.square_of_h ∙ by_square laws a k.h small_a small)
    ∙ sym (product_linear laws k.h (block_product a k.h) b)
