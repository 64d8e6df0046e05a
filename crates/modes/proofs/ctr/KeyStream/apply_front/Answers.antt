use Rattle.std.proofs.Common.{◌≡◌, ◌+◌, ◌-◌, ◌≤◌, ◌++◌, length, take, drop, refl, sym, ap, ◌∙◌, arith}
use Rattle.std.proofs.lemmas.List.{take_at, length-take-le}
use Rattle.octets.specs.Octets.{xor_octets}
use Rattle.modes.specs.Ctr.{ctr}
use Rattle.modes.proofs.Counting.{counts_on, with_stream}
use Rattle.modes.proofs.ctr.KeyStream.apply_front.Goals as goal

pub returns-clause-fed : goal.returns-clause-fed
returns-clause-fed g c f p streaming =
    let e = g.B.Block.encrypted c.args.cipher.now in
    let n = c.min-n.result in
    let q = take n c.args.octets.now in
    let long : length q ≡ n = length-take-le n c.args.octets.now (omega (arith, c.min-n.ensures)) in
    let room : c.prepare.new.self.used + length q ≤ 256 = omega (arith, long, c.min-n.ensures, c.prepare.ensures.left) in
    counts_on e f p c.prepare.new.self _ q (c.prepare.ensures.ready f p streaming) room refl refl
    (ap (λ k. c.prepare.new.self.used + k) (sym long))

pub returns-clause-text : goal.returns-clause-text
returns-clause-text g c f p streaming =
    let e = g.B.Block.encrypted c.args.cipher.now in
    let n = c.min-n.result in
    let u = c.prepare.new.self.used in
    let s = c.prepare.new.self.blocks in
    let q = take n c.args.octets.now in
    let long : length q ≡ n = length-take-le n c.args.octets.now (omega (arith, c.min-n.ensures)) in
    let ready = c.prepare.ensures.ready f p streaming in
    let added : xor_octets q (take (length q) (drop u s)) ≡ c.xor_into.new.octets =
    ap (λ m. xor_octets q (take m (drop u s))) (long ∙ (let e : n ≡ u + n - u = omega arith in e)) ∙ sym c.xor_into.ensures in
    let front : length c.xor_into.new.octets ≡ n = c.xor_into.auto.octets ∙ long in
    with_stream e f p q s u (λ i l. ready.blocks i (omega (arith, l, long, c.min-n.ensures)))
    ∙ ap (λ x. ctr e f p ++ x) (added ∙ sym (take_at c.xor_into.new.octets (drop n c.args.octets.now) n front))
