use Rattle.std.proofs.Common.{◌++◌, ap, ◌∙◌}
use Rattle.prf.specs.Hmac.{hmac, outer_key, inner_key}
use Rattle.prf.proofs.hmac.Hmac.finish.Goals as goal

pub returns-clause-code : goal.returns-clause-code
unfolding hmac
returns-clause-code g c key text fed =
    let f = g.H.Hash.function in
    c.finish.ensures.digest _ (c.update.ensures (outer_key f key) fed.outer)
    ∙ ap (λ inner. f.digest (outer_key f key ++ inner)) (c.finish-len.ensures.digest (inner_key f key ++ text) fed.inner)
