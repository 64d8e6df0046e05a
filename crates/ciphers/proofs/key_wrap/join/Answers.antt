use Rattle.std.proofs.Common.{ap₂, ◌∙◌, arith, ◌++◌, refl}
use Rattle.ciphers.proofs.Halves.{written_behind}
use Rattle.ciphers.proofs.key_wrap.join.Goals as goal

pub returns : goal.returns
returns c =
    written_behind c.copy_from_slice.new.self c.copy_from_slice-2.new.self _ (omega (arith, c.copy_from_slice.ensures.len)) refl
    ∙ ap₂ (λ s t. s ++ t) c.copy_from_slice.ensures.after c.copy_from_slice-2.ensures.after
