use Rattle.std.proofs.Common.{◌≡◌, ◌+◌, ◌-◌, ◌*◌, ◌≤◌, length, refl, sym, ap, ap₂, ◌∙◌, arith}
use Rattle.std.specs.List.{between}
use Rattle.octets.specs.Octets.{xor_octets}
use Rattle.modes.specs.Cbc.{block}
use Rattle.modes.proofs.Groups.{now, length-within, block_within, block_xor, block_written, block_before, block_behind}
use Rattle.modes.proofs.cbc_opening.open_later_blocks.Goals as goal

pub returns-clause-opened : goal.returns-clause-opened
returns-clause-opened g c i low high =
    let d = g.B.Block.decrypted c.args.cipher.now in
    let r = c.args.buf.now in
    let a = c.args.first in
    let b = c.args.end in
    let x = c.copy_from_slice-2.new.self in
    let C = c.copy_from_slice.new.self in
    let D = c.decrypt_blocks.new.blocks in
    let E = between (16 * (a - 1)) (16 * (b - 1)) r in
    let k = i - a in
    let n = 16 * b - 16 * a in
    let is : x ≡ xor_octets D E = c.copy_from_slice-2.ensures.after ∙ c.xor_into.ensures in
    let long : length x ≡ n = c.copy_from_slice-2.auto.self ∙ length-within r (16 * a) (16 * b) c.requires.within in
    let wide : length D ≡ n = sym (ap length c.copy_from_slice-2.ensures.after ∙ c.xor_into.auto.octets) ∙ long in
    let wide_before : length E ≡ n = length-within r (16 * (a - 1)) (16 * (b - 1)) (omega (arith, c.requires)) ∙ omega (arith, c.requires) in
    let room : 16 * a + n ≤ length r = omega (arith, c.requires) in
    let here : i ≡ a + k = omega (arith, low) in
    let inside : 16 * k + 16 ≤ n = omega (arith, low, high) in
    let copied : C ≡ between (16 * a) (16 * b) r = c.copy_from_slice.ensures.after in
    let given : 16 * k + 16 ≤ length C = omega (arith, ap length copied, length-within r (16 * a) (16 * b) c.requires.within, inside) in
    ap (block (now r x a n (16 * a) refl long room)) here
    ∙ block_written r x a n (16 * a) refl long room k inside
    ∙ ap (λ t. block t k) is
    ∙ block_xor D E k (omega (arith, wide, wide_before)) (omega (arith, wide, inside))
    ∙ ap₂ xor_octets
    (c.decrypt_blocks.ensures k given
    ∙ ap d (ap (λ t. block t k) copied ∙ block_within r a k (16 * a) (16 * b) refl (omega (arith, low, high)) ∙ ap (block r) (let e : a + k ≡ i = omega (arith, low) in e)))
    (block_within r (a - 1) k (16 * (a - 1)) (16 * (b - 1)) refl (omega (arith, low, high, c.requires))
    ∙ ap (block r) (let e : a - 1 + k ≡ i - 1 = omega (arith, low, c.requires) in e))

pub returns-clause-before : goal.returns-clause-before
returns-clause-before g c i h =
    let a = c.args.first in
    let n = 16 * c.args.end - 16 * a in
    let long : length c.copy_from_slice-2.new.self ≡ n = c.copy_from_slice-2.auto.self
    ∙ length-within c.args.buf.now (16 * a) (16 * c.args.end) c.requires.within in
    let room : 16 * a + n ≤ length c.args.buf.now = omega (arith, c.requires) in
    block_before c.args.buf.now c.copy_from_slice-2.new.self a n (16 * a) refl long room i h

pub returns-clause-behind : goal.returns-clause-behind
returns-clause-behind g c i h =
    let a = c.args.first in
    let n = 16 * c.args.end - 16 * a in
    let long : length c.copy_from_slice-2.new.self ≡ n = c.copy_from_slice-2.auto.self
    ∙ length-within c.args.buf.now (16 * a) (16 * c.args.end) c.requires.within in
    let room : 16 * a + n ≤ length c.args.buf.now = omega (arith, c.requires) in
    block_behind c.args.buf.now c.copy_from_slice-2.new.self a n (16 * a) refl long room i (omega (arith, h, c.requires))
