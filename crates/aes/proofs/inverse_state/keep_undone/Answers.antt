use Rattle.std.proofs.Common.{ap, ◌∙◌}
use Rattle.aes.specs.declared.tables.TheConstants.{UNDONE}
use Rattle.aes.specs.State.{at}
use Rattle.aes.specs.Code.Blocks.{block}
use Rattle.aes.specs.Code.LookUps.{from_halves}
use Rattle.aes.proofs.Squares.{same_square}
use Rattle.aes.proofs.Vectors.{at_map, at_fits, block_of_map, block_long, block_fits}
use Rattle.aes.proofs.KeptOctets.{summed_octet, summed_undone}
use Rattle.aes.proofs.inverse_state.keep_undone.Goals as goal

pub returns : goal.returns
returns g c i h =
    let x = block c.args.x i in
    let long = block_long g.row.N c.args.x i c.fits-x.0 h in
    let fits = block_fits c.args.x i c.fits-x.1 in
    let kept = block_of_map (from_halves UNDONE) c.args.x c.from_halves.result i c.from_halves.ensures in
    same_square _ x long (λ r l hr hl.
    ap summed_octet (at_map (from_halves UNDONE) x (block c.from_halves.result i) r l long hr hl kept) ∙ summed_undone (at x r l) (at_fits x r l fits))
