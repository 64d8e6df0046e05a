use Rattle.std.proofs.Common.{◌<◌, ◌*◌, ◌^◌, bit_xor, ap, ap₂, sym, subst, ◌∙◌, arith}
use Rattle.std.proofs.lemmas.Nat.{xor_lt}
use Rattle.modes.specs.Code.Shifts.{shifts}
use Rattle.modes.proofs.Rows.{rows, rows-lt, rows_product}
use Rattle.modes.proofs.Products.{product_by_rows}
use Rattle.modes.proofs.Shifts.{shifts_linear}
use Rattle.modes.proofs.hash_subkey.sum_of_products.Goals as goal

pub doubled-requires : goal.doubled-requires
doubled-requires c =
    let x = c.args.x in
    let y = c.args.y in
    let small_x : x < 2 ^ 128 = omega arith in
    let small_y : y < 2 ^ 128 = omega arith in
    subst (λ v. v < 2 ^ 255) (ap₂ bit_xor (rows_product c.args.a x small_x) (rows_product c.args.b y small_y) ∙ sym c.sum_of_products.ensures)
    (xor_lt 255 (rows c.args.a x) (rows c.args.b y) (rows-lt c.args.a x small_x) (rows-lt c.args.b y small_y))

pub returns : goal.returns
returns c =
    let a = c.args.a in
    let x = c.args.x in
    let b = c.args.b in
    let y = c.args.y in
    let laws = c.polynomial_laws.ensures in
    let small_a : a < 2 ^ 128 = omega arith in
    let small_x : x < 2 ^ 128 = omega arith in
    let small_b : b < 2 ^ 128 = omega arith in
    let small_y : y < 2 ^ 128 = omega arith in
    c.reduced.ensures
    ∙ ap (λ v. shifts v 128)
    (c.doubled.ensures
    ∙ ap (λ v. v * 2) (c.sum_of_products.ensures ∙ sym (ap₂ bit_xor (rows_product a x small_x) (rows_product b y small_y)))
    ∙ laws.power_linear 1 (rows a x) (rows b y))
    ∙ shifts_linear laws 128 (rows a x * 2) (rows b y * 2)
    ∙ sym (ap₂ bit_xor (product_by_rows laws a x small_a small_x) (product_by_rows laws b y small_b small_y))
