use Rattle.std.proofs.Common.{◌≡◌, Some, length, map, ap, ◌∙◌, arith}
use Rattle.tokens.specs.Encrypting.{direct_key}
use Rattle.tokens.specs.Code.Views.{recipient_key_view}
use Rattle.tokens.proofs.AlgorithmCases.{cek_size}
use Rattle.tokens.proofs.Encrypting.RecipientKeys.{direct_fits}
use Rattle.tokens.proofs.encrypt.content_key.Goals as goal

pub new-requires : goal.new-requires
new-requires c =
    let e = c.args.encryption.now in
    let is : direct_key (map recipient_key_view e.recipient_keys.items) ≡ Some c.in-Some.key.now = cc c.in-Some.ensures in
    let fits = direct_fits e.encryption e.recipient_keys.items c.in-Some.key.now e.fit is in
    omega (arith, fits, cek_size e.encryption)

pub returns-in-Some-clause-fits : goal.returns-in-Some-clause-fits
returns-in-Some-clause-fits c =
    let e = c.args.encryption.now in
    let is : direct_key (map recipient_key_view e.recipient_keys.items) ≡ Some c.in-Some.key.now = cc c.in-Some.ensures in
    ap length c.new.ensures ∙ direct_fits e.encryption e.recipient_keys.items c.in-Some.key.now e.fit is
