use Rattle.std.proofs.Common.{◌<◌, ◌/◌, ◌%◌, ◌^◌, bit_xor, ap₂, ◌∙◌, arith}
use Rattle.std.proofs.lemmas.Nat.{xor_lt}
use Rattle.modes.proofs.Rows.{rows_product, product_rows}
use Rattle.modes.proofs.Halves.{sum_of_products}
use Rattle.modes.proofs.unreduced.Unreduced.sum_of_products.Goals as goal

pub returns : goal.returns
returns c =
    let a = c.args.a in
    let x = c.args.x in
    let b = c.args.b in
    let y = c.args.y in
    let small_a : a < 2 ^ 128 = omega arith in
    let small_b : b < 2 ^ 128 = omega arith in
    let small_x : x < 2 ^ 128 = omega arith in
    let small_y : y < 2 ^ 128 = omega arith in
    let sum_x = xor_lt 64 (x / 2 ^ 64) (x % 2 ^ 64) (omega (arith, small_x)) (omega arith) in
    let sum_y = xor_lt 64 (y / 2 ^ 64) (y % 2 ^ 64) (omega (arith, small_y)) (omega arith) in
    sum_of_products a x b y c.sum_of_products-front.result c.sum_of_products-back.result c.sum_of_products.result small_a small_b (omega arith)
    (c.sum_of_products-front.ensures
    ∙ ap₂ bit_xor
    (product_rows _ _ _ _ (omega (arith, small_x)) c.high_half-a1.ensures c.high_half-x1.ensures)
    (product_rows _ _ _ _ (omega (arith, small_y)) c.high_half-b1.ensures c.high_half-y1.ensures))
    (c.sum_of_products-back.ensures
    ∙ ap₂ bit_xor
    (product_rows _ _ _ _ (omega arith) c.low_half-a0.ensures c.low_half-x0.ensures)
    (product_rows _ _ _ _ (omega arith) c.low_half-b0.ensures c.low_half-y0.ensures))
    (c.sum_of_products.ensures
    ∙ ap₂ bit_xor
    (product_rows _ _ _ _ (omega (arith, sum_x))
    (ap₂ bit_xor c.high_half-a1.ensures c.low_half-a0.ensures) (ap₂ bit_xor c.high_half-x1.ensures c.low_half-x0.ensures))
    (product_rows _ _ _ _ (omega (arith, sum_y))
    (ap₂ bit_xor c.high_half-b1.ensures c.low_half-b0.ensures) (ap₂ bit_xor c.high_half-y1.ensures c.low_half-y0.ensures)))
    ∙ ap₂ bit_xor (rows_product a x small_x) (rows_product b y small_y)
