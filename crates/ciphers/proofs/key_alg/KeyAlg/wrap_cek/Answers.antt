use Rattle.std.proofs.Common.{rules, ◌+◌, ◌≤◌, length, sym, ap, ◌∙◌, arith}
use Rattle.std.proofs.lemmas.List.{take_at, take_all, drop_all}
use Rattle.ciphers.specs.Delivery.{encrypted_key_of, tag_by, key_tag_of}
use Rattle.ciphers.specs.KeyWrap.{wrapped}
use Rattle.ciphers.specs.Code.Views.{parameters_view}
use Rattle.ciphers.proofs.Deliveries.{is_key, same_tag}
use Rattle.ciphers.proofs.key_alg.KeyAlg.wrap_cek.Goals as goal

pub returns-in-Direct-clause-encrypted : goal.returns-in-Direct-clause-encrypted
unfolding encrypted_key_of
returns-in-Direct-clause-encrypted c = rw (← is_key c.new-salted.ensures, ← c.in-Direct.ensures.way)

pub returns-in-Direct-clause-tag : goal.returns-in-Direct-clause-tag
unfolding key_tag_of
returns-in-Direct-clause-tag c = rw (← is_key c.new-salted.ensures, ← c.in-Direct.ensures.way)

pub returns-in-Wrap-clause-encrypted : goal.returns-in-Wrap-clause-encrypted
unfolding encrypted_key_of
returns-in-Wrap-clause-encrypted c = rw (← is_key c.new-salted.ensures, ← c.in-Wrap.ensures.way)
    (take_at c.wrap.new.out _ (length c.octets-octets.result.now + 8) (search rules) ∙ c.wrap.ensures ∙ ap (wrapped _) c.octets-octets.ensures)

pub returns-in-Wrap-clause-tag : goal.returns-in-Wrap-clause-tag
unfolding key_tag_of
returns-in-Wrap-clause-tag c = rw (← is_key c.new-salted.ensures, ← c.in-Wrap.ensures.way)

pub returns-in-Encrypt-clause-encrypted : goal.returns-in-Encrypt-clause-encrypted
unfolding encrypted_key_of
returns-in-Encrypt-clause-encrypted c =
    rw (← is_key c.new-salted.ensures, ← c.in-Encrypt.ensures.way) (rw (c.array.ensures, c.octets.ensures) at c.encrypt_cek-len.ensures.encrypted)

pub returns-in-Encrypt-clause-tag : goal.returns-in-Encrypt-clause-tag
unfolding key_tag_of
returns-in-Encrypt-clause-tag c =
    let all = c.encrypt_cek-len in
    take_all 16 all.new.tag (omega (arith, all.array_long, all.array_long2, all.array_long3, all.array_long4)) ∙ all.ensures.tag
    ∙ same_tag _ c.array.result c.args.parameters.iv.now c.octets.result.now c.args.cek.now c.array.ensures c.octets.ensures
    ∙ ap (λ w. tag_by w (parameters_view c.args.parameters) c.args.cek.now) c.in-Encrypt.ensures.way
    ∙ ap (λ k. key_tag_of c.args.self k (parameters_view c.args.parameters) c.args.cek.now) (is_key c.new-salted.ensures)

pub returns-in-Encrypt-clause-rest : goal.returns-in-Encrypt-clause-rest
returns-in-Encrypt-clause-rest c =
    let all = c.encrypt_cek-len in
    let long : length all.new.tag ≤ 16 = omega (arith, all.array_long, all.array_long2, all.array_long3, all.array_long4) in
    let long_before : length c.args.tag.now ≤ 16 = omega (arith, c.fits-tag, all.array_long, all.array_long2, all.array_long3, all.array_long4) in
    (all.ensures.rest, drop_all 16 all.new.tag long ∙ sym (drop_all 16 c.args.tag.now long_before))
