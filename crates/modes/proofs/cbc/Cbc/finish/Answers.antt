use Rattle.std.proofs.Common.{◌++◌, sym, ap, ap₂, ◌∙◌}
use Rattle.modes.specs.Cbc.{cbc_blocks}
use Rattle.modes.proofs.Fed.{finished}
use Rattle.modes.proofs.cbc.Cbc.finish.Goals as goal

pub returns : goal.returns
returns g c e iv p f =
    let s = c.args.self in
    let n = c.space-space.result in
    finished e iv p s.previous s.waiting f.previous f.waiting n c.space-space.ensures.space
    ∙ ap (λ t. cbc_blocks e iv p ++ t)
    (ap₂ (λ h t. cbc_blocks h s.previous t) (sym f.cipher) (sym c.complete-last.ensures.block)
    ∙ sym c.encrypt_blocks.ensures.text)
