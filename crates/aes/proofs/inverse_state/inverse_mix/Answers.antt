use Rattle.std.proofs.Common.{◌+◌, ◌%◌, ◌<◌, bit_xor, ap, ap₂, ◌∙◌, arith}
use Rattle.aes.specs.State.{at}
use Rattle.aes.specs.Code.Blocks.{block}
use Rattle.aes.proofs.Squares.{at-square}
use Rattle.aes.proofs.Vectors.{same_squares, at_map, at_fits, block_of_map, block_long, block_fits}
use Rattle.aes.proofs.KeptOctets.{summed_octet, times_9, times_11, times_13, times_14, summed_products}
use Rattle.aes.proofs.Mixing.{unmixed}
use Rattle.aes.proofs.inverse_state.inverse_mix.Goals as goal

pub returns : goal.returns
returns g c i h =
    let x = block c.args.x i in
    let long = block_long g.row.N c.args.x i c.fits-x.0 h in
    let fits = block_fits c.args.x i c.fits-x.1 in
    same_squares _ _ (λ r l hr hl.
    let one : (r + 1) % 4 < 4 = omega arith in
    let two : (r + 2) % 4 < 4 = omega arith in
    let three : (r + 3) % 4 < 4 = omega arith in
    ap summed_octet (ap (λ v. at v r l) (c.sum-3.ensures i h) ∙ at-square (λ r l. bit_xor (at (block c.sum.result i) r l) (at (block c.sum-2.result i) r l)) r l hr hl
    ∙ ap₂ bit_xor
    (ap (λ v. at v r l) (c.sum.ensures i h)
    ∙ at-square (λ r l. bit_xor (at (block c.from_halves.result i) r l) (at (block c.up_1.result i) r l)) r l hr hl
    ∙ ap₂ bit_xor (at_map times_14 x (block c.from_halves.result i) r l long hr hl (block_of_map times_14 c.args.x c.from_halves.result i c.from_halves.ensures))
    (ap (λ v. at v r l) (c.up_1.ensures i h) ∙ at-square (λ r l. at (block c.from_halves-2.result i) ((r + 1) % 4) l) r l hr hl
    ∙ at_map times_11 x (block c.from_halves-2.result i) ((r + 1) % 4) l long one hl (block_of_map times_11 c.args.x c.from_halves-2.result i c.from_halves-2.ensures)))
    (ap (λ v. at v r l) (c.sum-2.ensures i h)
    ∙ at-square (λ r l. bit_xor (at (block c.up_2.result i) r l) (at (block c.up_3.result i) r l)) r l hr hl
    ∙ ap₂ bit_xor
    (ap (λ v. at v r l) (c.up_2.ensures i h) ∙ at-square (λ r l. at (block c.from_halves-3.result i) ((r + 2) % 4) l) r l hr hl
    ∙ at_map times_13 x (block c.from_halves-3.result i) ((r + 2) % 4) l long two hl (block_of_map times_13 c.args.x c.from_halves-3.result i c.from_halves-3.ensures))
    (ap (λ v. at v r l) (c.up_3.ensures i h) ∙ at-square (λ r l. at (block c.from_halves-4.result i) ((r + 3) % 4) l) r l hr hl
    ∙ at_map times_9 x (block c.from_halves-4.result i) ((r + 3) % 4) l long three hl (block_of_map times_9 c.args.x c.from_halves-4.result i c.from_halves-4.ensures))))
    ∙ summed_products (at x r l) (at x ((r + 1) % 4) l) (at x ((r + 2) % 4) l) (at x ((r + 3) % 4) l)
    (at_fits x r l fits) (at_fits x ((r + 1) % 4) l fits) (at_fits x ((r + 2) % 4) l fits) (at_fits x ((r + 3) % 4) l fits))
    ∙ unmixed x
