use Rattle.std.proofs.Common.{◌≤◌, ◌++◌, length, ap, ◌∙◌, arith}
use Rattle.prf.specs.Hmac.{hmac}
use Rattle.ciphers.specs.Sealing.{cbc_tag}
use Rattle.ciphers.proofs.Sealers.{first_half}
use Rattle.ciphers.proofs.authentication.Authentication.finish.Goals as goal

pub returns-clause-tag : goal.returns-clause-tag
unfolding cbc_tag
returns-clause-tag g c mac_key iv aad text fed =
    let f = g.H.Hash.function in
    let len = c.finish-half.result in
    let code = c.finish-half.ensures.code mac_key _ (c.update.ensures mac_key ((aad ++ iv) ++ text) fed.mac) in
    let fits : len ≤ length c.finish-half.new.out = omega
    (arith, c.finish-half.ensures.len, g.met.H.Hash.is_hash_function.output_fits, c.finish-half.array_long) in
    first_half c.copy_from_slice.new.self c.finish-half.new.out _ _ len f.output_len c.finish-half.ensures.len c.copy_from_slice.ensures.after
    (code ∙ ap (λ bits. hmac f mac_key (((aad ++ iv) ++ text) ++ bits)) fed.bits) fits
