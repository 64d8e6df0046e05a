use Rattle.std.proofs.Common.{◌≡◌, ℕ, ◌+◌, ◌%◌, ◌<◌, replicate, bit_xor, ap, ap₂, ◌∙◌, arith}
use Rattle.std.specs.Simd.Lanes.{zip2}
use Rattle.aes.specs.State.{at, square}
use Rattle.aes.proofs.Squares.{at-square}
use Rattle.aes.specs.declared.tables.TheConstants.{SUB, TWICE, CONSTANT}
use Rattle.aes.specs.Code.Blocks.{block}
use Rattle.aes.specs.Code.LookUps.{from_inverse}
use Rattle.aes.specs.Code.Kept.{plain_octet, plain}
use Rattle.aes.proofs.Vectors.{same_squares, with_constant_is, at_map, block_of_map, block_long, block_fits}
use Rattle.aes.proofs.KeptOctets.{plain_octet-xor, plain_constant, once, twice, once_is_sub}
use Rattle.aes.proofs.Mixing.{mixed}
use Rattle.aes.proofs.state.sub_shift_mix.Goals as goal

pub returns : goal.returns
returns g c i h =
    let n = g.row.N in
    let x = block c.args.x i in
    let s = block c.from_inverse-once.result i in
    let d = block c.from_inverse.result i in
    let p = block c.sum-pair.result i in
    let u = block c.shifted_up_3.result i in
    let e = block (zip2 bit_xor c.shifted_up_3.result (replicate n CONSTANT)) i in
    let long = block_long n c.args.x i c.fits-x.0 h in
    let fits = block_fits c.args.x i c.fits-x.1 in
    let at_once = block_of_map (from_inverse SUB) c.args.x c.from_inverse-once.result i c.from_inverse-once.ensures in
    let at_twice = block_of_map (from_inverse TWICE) c.args.x c.from_inverse.result i c.from_inverse.ensures in
    let constant : e ≡ square (λ r l. bit_xor (at u r l) CONSTANT) = with_constant_is n c.shifted_up_3.result i CONSTANT (omega arith) h in
    let pair : (r l : ℕ) → r < 4 → l < 4 → plain_octet (at p r l)
    ≡ bit_xor (twice (at x r ((l + r) % 4))) (once (at x ((r + 1) % 4) ((l + (r + 1) % 4) % 4)))
    = λ r l hr hl.
    let next : (r + 1) % 4 < 4 = omega arith in
    let here : (l + r) % 4 < 4 = omega arith in
    let there : (l + (r + 1) % 4) % 4 < 4 = omega arith in
    ap plain_octet (ap (λ v. at v r l) (c.sum-pair.ensures i h)
    ∙ at-square (λ r l. bit_xor (at (block c.shifted.result i) r l) (at (block c.shifted_up_1.result i) r l)) r l hr hl
    ∙ ap₂ bit_xor
    (ap (λ v. at v r l) (c.shifted.ensures i h) ∙ at-square (λ r l. at d r ((l + r) % 4)) r l hr hl
    ∙ at_map (from_inverse TWICE) x d r ((l + r) % 4) long hr here at_twice)
    (ap (λ v. at v r l) (c.shifted_up_1.ensures i h) ∙ at-square (λ r l. at s ((r + 1) % 4) ((l + (r + 1) % 4) % 4)) r l hr hl
    ∙ at_map (from_inverse SUB) x s ((r + 1) % 4) ((l + (r + 1) % 4) % 4) long next there at_once))
    ∙ plain_octet-xor (from_inverse TWICE (at x r ((l + r) % 4))) (from_inverse SUB (at x ((r + 1) % 4) ((l + (r + 1) % 4) % 4))) in
    same_squares _ _ (λ r l hr hl.
    let next : (r + 1) % 4 < 4 = omega arith in
    let last : (r + 3) % 4 < 4 = omega arith in
    let there : (l + (r + 3) % 4) % 4 < 4 = omega arith in
    ap plain_octet (ap (λ v. at v r l) (c.sum-2.ensures i h) ∙ at-square (λ r l. bit_xor (at (block c.up_1.result i) r l) (at (block c.sum.result i) r l)) r l hr hl)
    ∙ plain_octet-xor (at (block c.up_1.result i) r l) (at (block c.sum.result i) r l)
    ∙ ap₂ bit_xor
    (ap plain_octet (ap (λ v. at v r l) (c.up_1.ensures i h) ∙ at-square (λ r l. at p ((r + 1) % 4) l) r l hr hl) ∙ pair ((r + 1) % 4) l next hl)
    (ap plain_octet (ap (λ v. at v r l) (c.sum.ensures i h) ∙ at-square (λ r l. bit_xor (at p r l) (at e r l)) r l hr hl)
    ∙ plain_octet-xor (at p r l) (at e r l)
    ∙ ap₂ bit_xor (pair r l hr hl)
    (ap plain_octet (ap (λ v. at v r l) constant ∙ at-square (λ r l. bit_xor (at u r l) CONSTANT) r l hr hl)
    ∙ plain_octet-xor (at u r l) CONSTANT
    ∙ ap₂ bit_xor
    (ap plain_octet (ap (λ v. at v r l) (c.shifted_up_3.ensures i h) ∙ at-square (λ r l. at s ((r + 3) % 4) ((l + (r + 3) % 4) % 4)) r l hr hl
    ∙ at_map (from_inverse SUB) x s ((r + 3) % 4) ((l + (r + 3) % 4) % 4) long last there at_once))
    plain_constant)))
    ∙ mixed once twice plain_octet once_is_sub x (plain x) (λ r l hr hl. at-square (λ r l. plain_octet (at x r l)) r l hr hl) fits
