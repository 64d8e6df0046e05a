use Rattle.std.proofs.Common.{◌-◌, ap, ap₂, ◌∙◌}
use Rattle.octets.specs.Octets.{xor_octets}
use Rattle.octets.proofs.Lemmas.{chunk_is}
use Rattle.modes.proofs.Opening.{opened_first, opened_later}
use Rattle.modes.proofs.cbc_opening.open_block.Goals as goal

pub returns-then-i-eq0 : goal.returns-then-i-eq0
returns-then-i-eq0 g c =
    let d = g.B.Block.decrypted c.args.cipher.now in
    c.xor_into.ensures
    ∙ ap (λ x. xor_octets x c.args.iv.now) (c.decrypt-opened.ensures ∙ ap d (c.copy_from_slice.ensures.after ∙ chunk_is 16 c.args.buf.now c.args.i))
    ∙ opened_first d c.args.iv.now c.args.buf.now c.args.i c.if-i-eq0.true

pub returns-else-i-eq0 : goal.returns-else-i-eq0
returns-else-i-eq0 g c =
    let d = g.B.Block.decrypted c.args.cipher.now in
    c.xor_into-else-i-eq0.ensures
    ∙ ap₂ xor_octets (c.decrypt-opened.ensures ∙ ap d (c.copy_from_slice.ensures.after ∙ chunk_is 16 c.args.buf.now c.args.i))
    (chunk_is 16 c.args.buf.now (c.args.i - 1))
    ∙ opened_later d c.args.iv.now c.args.buf.now c.args.i c.if-i-eq0.false
