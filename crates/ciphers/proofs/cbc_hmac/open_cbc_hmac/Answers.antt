use Rattle.std.proofs.Common.{rules, ◌≡◌, ◌≢◌, refl, sym, ap, ◌∙◌}
use Rattle.aes.specs.Cipher.{encrypted_block}
use Rattle.ciphers.specs.Sealing.{cbc_tag, cek_len_in, iv_len_in, sealing, sealing_in}
use Rattle.ciphers.proofs.Openings.{is_no_opening, is_opening, opens, padding_behind, right_tag, stays, under_halves}
use Rattle.ciphers.proofs.cbc_hmac.open_cbc_hmac.Goals as goal

pub returns-clause-opened : goal.returns-clause-opened
unfolding sealing
returns-clause-opened g c = λ alg family.
    let e = g.B.Block.encrypted c.under.result in
    let mac_key = c.split_at.result.0.now in
    let s = sealing alg c.args.cek.now c.args.iv.now c.args.aad.now in
    let halves = under_halves e g.H.Hash.function g.B.Keyed.words c.args.cek.now mac_key c.split_at.result.1.now c.args.iv.now c.args.aad.now s
    c.requires.cek_fits c.split_at.ensures.front c.split_at.ensures.back c.under.ensures
    (ap (λ k. sealing_in k c.args.cek.now c.args.iv.now c.args.aad.now) family) in
    let right : c.args.tag.now ≡ cbc_tag g.H.Hash.function mac_key c.args.iv.now c.args.aad.now c.args.buf.now = search rules in
    is_opening alg c.args.cek.now c.args.iv.now c.args.aad.now c.args.buf.now c.args.tag.now
    (c.requires.cek_fits ∙ sym (ap cek_len_in family)) (c.requires.iv_fits ∙ sym (ap iv_len_in family)) c.cbc_open.result c.cbc_open.new.buf
    (opens e g.H.Hash.function mac_key c.args.iv.now c.args.aad.now c.args.buf.now c.args.tag.now s halves
    c.cbc_open.result c.cbc_open.new.buf (λ i. search rules) (rw c.array.ensures at c.cbc_open.ensures.opened) right)

pub returns-clause-rest : goal.returns-clause-rest
returns-clause-rest g c = padding_behind _ c.cbc_open.result c.args.buf.now c.cbc_open.new.buf c.cbc_open.auto.buf
    c.cbc_open.ensures.opened c.cbc_open.ensures.rest

pub returns-clause-nothing : goal.returns-clause-nothing
unfolding sealing
returns-clause-nothing g c = λ alg family.
    let e = g.B.Block.encrypted c.under.result in
    let mac_key = c.split_at.result.0.now in
    let s = sealing alg c.args.cek.now c.args.iv.now c.args.aad.now in
    let halves = under_halves e g.H.Hash.function g.B.Keyed.words c.args.cek.now mac_key c.split_at.result.1.now c.args.iv.now c.args.aad.now s
    c.requires.cek_fits c.split_at.ensures.front c.split_at.ensures.back c.under.ensures
    (ap (λ k. sealing_in k c.args.cek.now c.args.iv.now c.args.aad.now) family) in
    is_no_opening alg c.args.cek.now c.args.iv.now c.args.aad.now c.args.buf.now c.args.tag.now c.cbc_open.result
    (stays e g.H.Hash.function mac_key c.args.iv.now c.args.aad.now c.args.buf.now c.args.tag.now s halves
    c.cbc_open.result (rw c.array.ensures at c.cbc_open.ensures.nothing))

pub returns-then-not-same_octets-clause-nothing : goal.returns-then-not-same_octets-clause-nothing
unfolding sealing
returns-then-not-same_octets-clause-nothing g c =
    let mac_key = c.split_at.result.0.now in
    let wrong : c.args.tag.now ≢ cbc_tag g.H.Hash.function mac_key c.args.iv.now c.args.aad.now c.args.buf.now = search rules in
    λ alg family p opening.
    let key = c.split_at.result.1.now in
    let e = encrypted_block g.B.Keyed.words key in
    let s = sealing alg c.args.cek.now c.args.iv.now c.args.aad.now in
    let halves = under_halves e g.H.Hash.function g.B.Keyed.words c.args.cek.now mac_key key c.args.iv.now c.args.aad.now s
    c.requires.cek_fits c.split_at.ensures.front c.split_at.ensures.back refl
    (ap (λ k. sealing_in k c.args.cek.now c.args.iv.now c.args.aad.now) family) in
    wrong (right_tag e g.H.Hash.function mac_key c.args.iv.now c.args.aad.now c.args.buf.now c.args.tag.now s halves p opening.opens)
