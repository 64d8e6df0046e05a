use Rattle.std.proofs.Common.{ap, ◌∙◌}
use Rattle.ciphers.specs.Code.Views.{parameters_view}
use Rattle.ciphers.proofs.Deliveries.{direct_delivers, direct_nothing, unwrapped_delivers, unwrapped_nothing, opened_delivers, opened_nothing}
use Rattle.ciphers.proofs.key_alg.KeyAlg.unwrap_cek_salted.Goals as goal

pub returns-in-Direct-clause-delivers : goal.returns-in-Direct-clause-delivers
returns-in-Direct-clause-delivers c =
    rw (← c.in-Direct.ensures.way, ← (c.octets.ensures.key ∙ ap (λ s. s.key) c.in-Direct.ensures.same))
    (direct_delivers c.args.enc _ (parameters_view c.args.parameters) _ _ c.octets.ensures.octets c.direct_cek.ensures.delivers)

pub returns-in-Direct-clause-nothing : goal.returns-in-Direct-clause-nothing
returns-in-Direct-clause-nothing c =
    rw (← c.in-Direct.ensures.way, ← (c.octets.ensures.key ∙ ap (λ s. s.key) c.in-Direct.ensures.same))
    (direct_nothing c.args.enc _ (parameters_view c.args.parameters) _ _ c.direct_cek.ensures.nothing)

pub returns-in-Wrap-clause-delivers : goal.returns-in-Wrap-clause-delivers
returns-in-Wrap-clause-delivers c =
    rw (← c.in-Wrap.ensures.way) (unwrapped_delivers c.args.enc _ (parameters_view c.args.parameters) _ _ _ c.unwrapped_cek.ensures.delivers)

pub returns-in-Wrap-clause-nothing : goal.returns-in-Wrap-clause-nothing
returns-in-Wrap-clause-nothing c =
    rw (← c.in-Wrap.ensures.way) (unwrapped_nothing c.args.enc _ (parameters_view c.args.parameters) _ _ _ c.unwrapped_cek.ensures.nothing)

pub returns-in-Encrypt-clause-delivers : goal.returns-in-Encrypt-clause-delivers
returns-in-Encrypt-clause-delivers c =
    rw (← c.in-Encrypt.ensures.way) (opened_delivers c.args.enc _ (parameters_view c.args.parameters) _ _ _ c.opened_cek-cek.ensures.delivers)

pub returns-in-Encrypt-clause-nothing : goal.returns-in-Encrypt-clause-nothing
returns-in-Encrypt-clause-nothing c =
    rw (← c.in-Encrypt.ensures.way) (opened_nothing c.args.enc _ (parameters_view c.args.parameters) _ _ _ c.opened_cek-cek.ensures.nothing)
