use Rattle.std.proofs.Common.{rules, ◌≡◌, ◌+◌, ◌-◌, ◌*◌, ◌/◌, ◌%◌, ◌<◌, ◌≤◌, length, sym, ap, ◌∙◌, subst, arith}
use Rattle.ciphers.specs.Code.Views.{IsRow}
use Rattle.ciphers.proofs.Table.{within, turn_within, row_down, row_up_again, half_down, kept_long}
use Rattle.ciphers.proofs.key_wrap.unwrap_registers.Goals as goal

pub loop-t-init : goal.loop-t-init
loop-t-init g c = record {
  half = record { eight = c.told-a; octets = c.fits-a };
  octets = λ i. search rules;
  back = λ p octets row. row;
  forth = λ p row. row;
}

pub loop-t-preserved : goal.loop-t-preserved
loop-t-preserved g c =
    let e = g.B.Block.encrypted c.args.kek.now in
    let d = g.B.Block.decrypted c.args.kek.now in
    let law = g.met.B.Block.is_cipher c.args.kek.now in
    let a = c.loop-t.a in
    let r = c.loop-t.r in
    let t = c.loop-t.t - 1 in
    let i = t % (length c.args.r.now / 8) in
    let eight : length c.step_back.new.r ≡ 8 = c.step_back.auto.r ∙ omega arith in
    let same : c.loop-t.t ≡ t + 1 = omega (arith, c.loop-t-test.true) in
    let few : t < 6 * 8 = omega (arith, c.requires, c.loop-t.auto.t, c.loop-t-test.true) in
    let turn : i ≡ t % (length r / 8) = ap (λ n. t % (n / 8)) (sym c.loop-t.auto.r) in
    let two : 16 ≤ length r = subst (λ n. 16 ≤ n) (sym c.loop-t.auto.r) c.requires.0 in
    let room : 8 * i + 8 ≤ length r = within r i (subst (λ k. k < length r / 8) (sym turn) (turn_within r t two)) in
    record {
      half = half_down e r t i turn two a r c.step_back.new.a c.step_back.new.r eight d law few c.step_back.ensures.check c.step_back.ensures.register
          c.loop-t.invariant.octets room;
      octets = λ k. search (rules, c.type_inv.r k);
      back = λ p octets start.
          row_down e p t i (ap (λ n. t % (n / 8)) start.long) (subst (λ n. 16 ≤ n) start.long c.requires.0)
          a r c.step_back.new.a c.step_back.new.r eight d law few c.step_back.ensures.check c.step_back.ensures.register octets
          (subst (λ m. IsRow e p m a r) same (c.loop-t.invariant.back p octets start));
      forth = λ p row.
          let long : length r ≡ length p = sym (kept_long r c.step_back.new.r t i turn two eight) ∙ row.long in
          c.loop-t.invariant.forth p (subst (λ m. IsRow e p m a r) (sym same)
          (row_up_again e p t i (turn ∙ ap (λ n. t % (n / 8)) long) (subst (λ n. 16 ≤ n) long two)
          a r c.step_back.new.a c.step_back.new.r eight d law few c.step_back.ensures.check c.step_back.ensures.register
          c.loop-t.invariant.half c.loop-t.invariant.octets long row));
    }
