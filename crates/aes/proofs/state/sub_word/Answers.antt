use Rattle.std.proofs.Common.{◌≡◌, ℕ, ◌<◌, [], ◌∷◌, slice_index, sym, ap, ◌∙◌, arith}
use Rattle.aes.specs.SBox.{s_box}
use Rattle.aes.specs.State.{at}
use Rattle.aes.specs.Code.Blocks.{block}
use Rattle.aes.specs.Code.Kept.{plain}
use Rattle.aes.proofs.Squares.{at-square, by_row}
use Rattle.aes.proofs.Places.{whole_block}
use Rattle.aes.proofs.state.sub_word.Goals as goal

pub returns : goal.returns
returns c =
    let y = c.sub.result in
    let p = plain (block c.keep.result 0) in
    let octet : (r : ℕ) → r < 4 → at y r 0 ≡ s_box (at p r 0) = λ r h.
    ap (λ v. at v r 0) (sym (whole_block y (omega arith) 0 (omega arith)) ∙ c.sub.ensures 0 (omega arith)) ∙ at-square (λ r l. s_box (at p r l)) r 0 h (omega arith) in
    by_row (λ r. slice_index (slice_index y 0 ∷ slice_index y 1 ∷ slice_index y 2 ∷ slice_index y 3 ∷ []) r ≡ s_box (slice_index c.args.word r))
    (octet 0 (omega arith) ∙ ap (λ v. s_box (at v 0 0)) (c.keep.ensures 0 (omega arith)))
    (octet 1 (omega arith) ∙ ap (λ v. s_box (at v 1 0)) (c.keep.ensures 0 (omega arith)))
    (octet 2 (omega arith) ∙ ap (λ v. s_box (at v 2 0)) (c.keep.ensures 0 (omega arith)))
    (octet 3 (omega arith) ∙ ap (λ v. s_box (at v 3 0)) (c.keep.ensures 0 (omega arith)))
