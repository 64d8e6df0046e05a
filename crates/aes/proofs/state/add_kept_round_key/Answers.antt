use Rattle.std.proofs.Common.{◌≡◌, ◌+◌, ◌*◌, bit_xor, length, rules, sym, ap, ap₂, ◌∙◌, arith}
use Rattle.aes.specs.State.{at, word}
use Rattle.aes.specs.Code.Blocks.{block}
use Rattle.aes.specs.Code.Kept.{plain_octet, plain}
use Rattle.aes.proofs.Squares.{at-square, length-square}
use Rattle.aes.proofs.Places.{whole_block}
use Rattle.aes.proofs.Vectors.{same_squares}
use Rattle.aes.proofs.KeptOctets.{plain_octet-xor}
use Rattle.aes.proofs.state.add_kept_round_key.Goals as goal

pub returns : goal.returns
returns g c i h =
    let x = block c.args.x i in
    let k = c.keep.result in
    let w = c.args.round_keys.now in
    let m = c.args.round in
    let kept : plain k ≡ c.round_key.result = ap plain (sym (whole_block k (search rules) 0 (omega arith))) ∙ c.keep.ensures 0 (omega arith) ∙ whole_block c.round_key.result (ap length c.round_key.ensures ∙ length-square _) 0 (omega arith) in
    same_squares _ _ (λ r l hr hl.
    ap plain_octet (ap (λ v. at v r l) (c.sum.ensures i h) ∙ at-square (λ r l. bit_xor (at x r l) (at (block c.repeated.result i) r l)) r l hr hl)
    ∙ plain_octet-xor (at x r l) (at (block c.repeated.result i) r l)
    ∙ ap₂ bit_xor (sym (at-square (λ r l. plain_octet (at x r l)) r l hr hl))
    (ap (λ v. plain_octet (at v r l)) (c.repeated.ensures i h)
    ∙ sym (at-square (λ r l. plain_octet (at k r l)) r l hr hl) ∙ ap (λ v. at v r l) (kept ∙ c.round_key.ensures) ∙ at-square (λ r l. word w (4 * m + l) r) r l hr hl))
