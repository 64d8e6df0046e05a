use Rattle.std.proofs.Common.{rules, ◌≡◌, ◌<◌, [], ◌++◌, length, take, replicate, slice_index, sym, ap, subst, ◌∙◌, arith}
use Rattle.std.proofs.lemmas.Bool.{iff_false}
use Rattle.std.proofs.lemmas.List.{take_all}
use Rattle.modes.specs.Ctr.{counter_block, ctr}
use Rattle.modes.specs.Gcm.{pre_counter_block, gcm_ciphertext}
use Rattle.modes.specs.Ghash.{zero_filled}
use Rattle.modes.proofs.Protecting.{length-gcm_ciphertext, tag_is, ctr-ctr, ctr-none, second_counter}
use Rattle.modes.proofs.gcm.gcm_open.Goals as goal

pub returns-then-buf-gt-LONGEST-clause-nothing : goal.returns-then-buf-gt-LONGEST-clause-nothing
returns-then-buf-gt-LONGEST-clause-nothing g c p o =
    let long : length c.args.buf.now ≡ length p = ap length (sym o.is_ciphertext)
    ∙ length-gcm_ciphertext (g.B.Block.encrypted c.args.cipher.now) c.args.iv.now p in
    absurd (omega (arith, long, o.short, c.if-buf-gt-LONGEST.true))

pub returns-then-not-same_octets-clause-nothing : goal.returns-then-not-same_octets-clause-nothing
returns-then-not-same_octets-clause-nothing g c p o =
    let e = g.B.Block.encrypted c.args.cipher.now in
    let tag = tag_is e c.args.iv.now c.args.aad.now c.args.buf.now c.bit_length.result c.bit_length-2.result c.tag_mask-tag_mask.result c.tag_of-expected.result
    (c.tag_of-expected.ensures (e (replicate 16 0)) (zero_filled c.args.aad.now ++ c.args.buf.now)
    (c.feed.ensures (e (replicate 16 0)) (zero_filled c.args.aad.now) c.aad_hash-hash.ensures))
    c.bit_length.ensures c.bit_length-2.ensures c.tag_mask-tag_mask.ensures in
    iff_false c.same_octets.ensures c.if-not-same_octets.true (tag ∙ o.is_tag)

pub returns-clause-opened : goal.returns-clause-opened
unfolding gcm_ciphertext
returns-clause-opened g c =
    let e = g.B.Block.encrypted c.args.cipher.now in
    let f = counter_block (pre_counter_block c.args.iv.now) 1 in
    let out = c.apply.new.octets in
    let tag = tag_is e c.args.iv.now c.args.aad.now c.args.buf.now c.bit_length.result c.bit_length-2.result c.tag_mask-tag_mask.result c.tag_of-expected.result
    (c.tag_of-expected.ensures (e (replicate 16 0)) (zero_filled c.args.aad.now ++ c.args.buf.now)
    (c.feed.ensures (e (replicate 16 0)) (zero_filled c.args.aad.now) c.aad_hash-hash.ensures))
    c.bit_length.ensures c.bit_length-2.ensures c.tag_mask-tag_mask.ensures in
    let text : ctr e f c.args.buf.now ≡ out =
    ap (λ h. ctr e h c.args.buf.now) (second_counter c.args.iv.now c.told-iv ∙ sym c.counter_block.ensures)
    ∙ c.apply.ensures.text c.counter_block.result [] (c.start.ensures e)
    ∙ ap (λ t. t ++ out) (ctr-none e c.counter_block.result) in
    let same : length out ≡ length c.args.buf.now = c.apply.auto.octets in
    let whole : take (length out) out ≡ out = take_all (length out) out (omega arith) in (
      omega (arith, same),
      record {
        octets = λ i. subst (λ t. slice_index t i < 256) (sym whole) (search (rules, c.type_inv.buf i));
        short = omega (arith, ap length whole, same, c.if-buf-gt-LONGEST.false);
        is_ciphertext = ap (ctr e f) (whole ∙ sym text) ∙ ctr-ctr e f c.args.buf.now;
        is_tag = sym tag ∙ c.same_octets.ensures.0 c.if-not-same_octets.false;
      },
    )
