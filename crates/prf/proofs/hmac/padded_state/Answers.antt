use Rattle.std.proofs.Common.{[], take, ap, ◌∙◌, subst}
use Rattle.prf.specs.Hmac.{xor_each}
use Rattle.prf.proofs.Blocks.{take-xor_each}
use Rattle.prf.proofs.hmac.padded_state.Goals as goal

pub returns : goal.returns
returns g c =
    let block = c.block.inside in
    let taken = ap (take block.len) c.xor_with.ensures ∙ take-xor_each c.args.pad block.len block.octets ∙ ap (xor_each c.args.pad) c.block.view_is in
    subst (g.H.Hash.holds c.update.new.self) taken (c.update.ensures [] c.start-state.ensures)
