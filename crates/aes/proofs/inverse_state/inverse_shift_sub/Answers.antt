use Rattle.std.proofs.Common.{◌≡◌, ◌+◌, ◌-◌, ◌%◌, ◌<◌, length, sym, ap, ◌∙◌, arith}
use Rattle.std.proofs.lemmas.List.{length-map}
use Rattle.aes.specs.declared.tables.TheConstants.{RECIPROCAL}
use Rattle.aes.specs.SBox.{s_box_sum}
use Rattle.aes.specs.State.{at}
use Rattle.aes.specs.InverseCipher.{inverse_s_box, inverse_shift_rows}
use Rattle.aes.specs.Code.Blocks.{block}
use Rattle.aes.specs.Code.LookUps.{from_inverse}
use Rattle.aes.specs.Code.Kept.{plain_octet, summed}
use Rattle.aes.proofs.Squares.{at-square, same_square, length-square}
use Rattle.aes.proofs.Vectors.{at_map, at_fits, block_of_map, block_fits}
use Rattle.aes.proofs.KeptOctets.{inverse_of_summed}
use Rattle.aes.proofs.inverse_state.inverse_shift_sub.Goals as goal

pub returns : goal.returns
returns g c i h =
    let x = block c.args.x i in
    let s = block c.shifted_back.result i in
    let v = block c.from_inverse.result i in
    let f = from_inverse RECIPROCAL in
    let fits = block_fits c.args.x i c.fits-x.1 in
    let long : length s ≡ 16 = ap length (c.shifted_back.ensures i h) ∙ length-square _ in
    let looked = block_of_map f c.shifted_back.result c.from_inverse.result i c.from_inverse.ensures in
    sym (same_square (λ r l. inverse_s_box (at (inverse_shift_rows (summed x)) r l)) v (ap length looked ∙ length-map s f ∙ long) (λ r l hr hl.
    let from : (l + 4 - r) % 4 < 4 = omega arith in
    ap inverse_s_box (at-square (λ r l. at (summed x) r ((l + 4 - r) % 4)) r l hr hl
    ∙ at-square (λ r l. s_box_sum (plain_octet (at x r l))) r ((l + 4 - r) % 4) hr from)
    ∙ inverse_of_summed (at x r ((l + 4 - r) % 4)) (at_fits x r ((l + 4 - r) % 4) fits)
    ∙ sym (at_map f s v r l long hr hl looked
    ∙ ap f (ap (λ l'. at l' r l) (c.shifted_back.ensures i h) ∙ at-square (λ r l. at x r ((l + 4 - r) % 4)) r l hr hl))))
