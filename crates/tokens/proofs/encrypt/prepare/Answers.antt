use Rattle.std.proofs.Common.{◌≡◌, ◌++◌, true, length, map, string_bytes, refl, ap, ◌∙◌, arith, rules}
use Rattle.std.proofs.lemmas.Bool.{le-leb}
use Rattle.std.proofs.lemmas.List.{length-map}
use Rattle.keys.specs.Limits.{limits, are_few}
use Rattle.ciphers.specs.contracts.content_alg.ContentSealerSealer.TheImpl.{is_sealing-value}
use Rattle.octets.specs.Devices.{appended}
use Rattle.octets.proofs.Lemmas.{appended-append}
use Rattle.tokens.specs.Encrypting.{random_len}
use Rattle.tokens.specs.Code.Views.{encryption_plan_view, recipient_key_view}
use Rattle.tokens.proofs.Encrypting.Recipients.{OctetLaws}
use Rattle.tokens.proofs.Encrypting.Frames.{is_built, has_frame, is_unsealed}
use Rattle.tokens.proofs.Encrypting.Sealing.{if_ok_all}
use Rattle.tokens.proofs.encrypt.prepare.Goals as goal

pub begin_sealing-requires : goal.begin_sealing-requires
begin_sealing-requires g c =
    let e = encryption_plan_view c.in_ok-encryption.encryption in
    let items = c.in_ok-encryption.encryption.recipient_keys.items in
    let few : are_few limits (length e.recipient_keys) ≡ true =
    le-leb (length e.recipient_keys) limits.recipients (omega (arith, length-map items recipient_key_view, c.in_ok-encryption.encryption.few)) in
    let long : length c.draw.new.out ≡ random_len e = search rules in
    let laws : OctetLaws = record { opened = c.what_is_opened_is_octets.ensures; delivering = c.what_delivers_is_octets.ensures } in
    let built = is_built c.args.compact c.args.keys.now c.args.template.now e c.draw.new.out c.in_ok-encryption.ensures few laws c.are_octet_keys.ensures.octets
    c.are_octets.ensures long in
    let framed = has_frame c.args.compact c.args.keys.now c.args.template.now e c.draw.new.out c.in_ok-encryption.ensures few laws c.are_octet_keys.ensures.octets
    c.are_octets.ensures long c.args.detach in
    record { long = long; built = built; made = rw framed.1 refl }

pub returns-clause-unsealed : goal.returns-clause-unsealed
returns-clause-unsealed g c octets may =
    let consumed = g.I.Input.consumed in
    let e = encryption_plan_view c.in_ok-encryption.encryption in
    let items = c.in_ok-encryption.encryption.recipient_keys.items in
    let few : are_few limits (length e.recipient_keys) ≡ true =
    le-leb (length e.recipient_keys) limits.recipients (omega (arith, length-map items recipient_key_view, c.in_ok-encryption.encryption.few)) in
    let long : length c.draw.new.out ≡ random_len e = search rules in
    let drawn : appended (consumed c.args.random.now) (consumed c.draw.new.random) ≡ c.draw.new.out =
    ap (appended (consumed c.args.random.now)) c.in_ok-draw.ensures.octets ∙ appended-append (consumed c.args.random.now) c.draw.new.out in
    let laws : OctetLaws = record { opened = c.what_is_opened_is_octets.ensures; delivering = c.what_delivers_is_octets.ensures } in
    if_ok_all c.begin_sealing.result c.begin_sealing.ensures.sealing c.begin_sealing.ensures.framed c.begin_sealing.ensures.cek
    (λ made started framed cek. is_unsealed is_sealing-value.it c.args.compact c.args.detach c.args.keys.now c.args.template.now e c.draw.new.out octets
    may.rest made.sealer (map string_bytes made.texts.items)
    c.in_ok-encryption.ensures few laws c.are_octet_keys.ensures.octets c.are_octets.ensures long (may.continues ∙ ap (λ l. l ++ may.rest) drawn) started framed cek)
