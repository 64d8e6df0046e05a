use Rattle.std.proofs.Common.{◌≡◌, ◌+◌, ◌%◌, [], ◌∷◌, slice_index, refl, ap, ◌∙◌}
use Rattle.std.proofs.lemmas.Simd.{pick_l_left}
use Rattle.aes.proofs.Squares.{by_row}
use Rattle.aes.proofs.key_expansion.rotated.Goals as goal

pub returns : goal.returns
returns c r h =
    let a = slice_index c.args.word in
    ap (λ l. slice_index l r) (pick_l_left 0 c.args.word c.args.word 4 (1 ∷ 2 ∷ 3 ∷ 0 ∷ []) c.fits-word.0 tt)
    ∙ by_row (λ r. slice_index (a 1 ∷ a 2 ∷ a 3 ∷ a 0 ∷ []) r ≡ a ((r + 1) % 4)) refl refl refl refl r h
