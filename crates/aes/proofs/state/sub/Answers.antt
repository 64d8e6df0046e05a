use Rattle.std.proofs.Common.{bit_xor, length, sym, ap, ◌∙◌}
use Rattle.std.proofs.lemmas.List.{length-map}
use Rattle.aes.specs.declared.tables.TheConstants.{LAST}
use Rattle.aes.specs.SBox.{s_box}
use Rattle.aes.specs.State.{at}
use Rattle.aes.specs.Code.Blocks.{block}
use Rattle.aes.specs.Code.LookUps.{from_inverse}
use Rattle.aes.specs.Code.Kept.{plain_octet}
use Rattle.aes.proofs.Squares.{at-square}
use Rattle.aes.proofs.Vectors.{same_squares, with_constant_is, at_map, at_fits, block_of_map, block_long, block_fits}
use Rattle.aes.proofs.KeptOctets.{last_is}
use Rattle.aes.proofs.state.sub.Goals as goal

pub returns : goal.returns
returns g c i h =
    let x = block c.args.x i in
    let y = c.from_inverse.result in
    let long = block_long g.row.N c.args.x i c.fits-x.0 h in
    let fits = block_fits c.args.x i c.fits-x.1 in
    let last = block_of_map (from_inverse LAST) c.args.x y i c.from_inverse.ensures in
    with_constant_is g.row.N y i 0x63 (ap length c.from_inverse.ensures ∙ length-map c.args.x (from_inverse LAST) ∙ c.fits-x.0) h
    ∙ same_squares _ _ (λ r l hr hl.
    ap (λ n. bit_xor n 0x63) (at_map (from_inverse LAST) x (block y i) r l long hr hl last)
    ∙ last_is (at x r l) (at_fits x r l fits)
    ∙ ap s_box (sym (at-square (λ r l. plain_octet (at x r l)) r l hr hl)))
