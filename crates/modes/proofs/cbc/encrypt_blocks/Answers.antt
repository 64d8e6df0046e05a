use Rattle.std.proofs.Common.{◌≡◌, suc, ◌+◌, ◌-◌, ◌*◌, ◌/◌, ◌≤◌, length, refl, sym, ap, ◌∙◌, arith}
use Rattle.modes.specs.Cbc.{chained}
use Rattle.octets.proofs.Lemmas.{chunk_more}
use Rattle.modes.proofs.Chaining.{blocks_from, chained_more}
use Rattle.modes.proofs.cbc.encrypt_blocks.Goals as goal

pub loop-i-init : goal.loop-i-init
unfolding chained
loop-i-init g c = record { last = refl; long = c.told-previous; text = λ j l. absurd (omega arith) }

pub loop-i-preserved : goal.loop-i-preserved
loop-i-preserved g c =
    let e = g.B.Block.encrypted c.args.cipher.now in
    let i = c.loop-i.i in
    let p = c.args.blocks.now in
    let f = chained e c.args.previous.now p in
    let x = c.copy_from_slice.new.self in
    let next : c.encrypt.result ≡ f (suc i) =
    c.encrypt.ensures ∙ chained_more e c.args.previous.now p c.loop-i.previous i c.loop-i.invariant.last c.loop-i.invariant.long (omega arith) in
    let room : 16 * i + 16 ≤ length c.loop-i.out = omega (arith, c.loop-i.auto.out) in
    let one_block : 16 * i + 16 - 16 * i ≡ 16 = omega arith in
    let sixteen : length x ≡ 16 = c.copy_from_slice.auto.self ∙ omega arith in
    record {
      last = next ∙ ap f (let z : suc i ≡ i + 1 = omega arith in z);
      long = ap length (sym c.copy_from_slice.ensures.after) ∙ sixteen;
      text = λ j l. chunk_more 16 c.loop-i.out x i (16 * i + 16 - 16 * i) one_block room sixteen (λ k. f (suc k)) (c.copy_from_slice.ensures.after ∙ next) j
          (λ ne. c.loop-i.invariant.text j (omega (arith, ne, l)));
    }

pub returns-clause-text : goal.returns-clause-text
returns-clause-text g c =
    blocks_from (g.B.Block.encrypted c.args.cipher.now) c.args.previous.now c.args.blocks.now c.loop-i.out (length c.args.blocks.now / 16) refl
    (omega (arith, c.loop-i.auto.out, c.requires))
    (λ j l. c.loop-i.invariant.text j (omega (arith, l)))
