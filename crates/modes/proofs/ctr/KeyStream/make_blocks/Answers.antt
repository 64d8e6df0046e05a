use Rattle.std.proofs.Common.{rules, ◌≡◌, ◌+◌, ◌-◌, ◌*◌, ◌≤◌, length, refl, sym, ap, ◌∙◌, arith}
use Rattle.std.specs.List.{between}
use Rattle.modes.specs.Cbc.{block}
use Rattle.modes.proofs.Groups.{now, length-within, block_within, block_written}
use Rattle.modes.proofs.ctr.KeyStream.make_blocks.Goals as goal

pub returns-clause-blocks : goal.returns-clause-blocks
returns-clause-blocks g c f n h is i low high =
    let e = g.B.Block.encrypted c.args.cipher.now in
    let a = c.args.first in
    let r = c.write_counters.new.self.blocks in
    let x = c.encrypt_blocks.new.blocks in
    let k = i - a in
    let m = 256 - 16 * a in
    let wide : length r ≡ 256 = search rules in
    let all : length (between (16 * a) 256 r) ≡ m = length-within r (16 * a) 256 (omega (arith, wide)) in
    let long : length x ≡ m = c.encrypt_blocks.auto.blocks ∙ all in
    let room : 16 * a + m ≤ length r = omega (arith, wide, c.requires) in
    let here : i ≡ a + k = omega (arith, low) in
    let inside : 16 * k + 16 ≤ m = omega (arith, low, high) in
    ap (block (now r x a m (16 * a) refl long room)) here
    ∙ block_written r x a m (16 * a) refl long room k inside
    ∙ c.encrypt_blocks.ensures k (omega (arith, all, inside))
    ∙ ap e (block_within r a k (16 * a) 256 refl (omega (arith, low, high)) ∙ ap (block r) (sym here) ∙ c.write_counters.ensures.blocks f n h is i low high)
