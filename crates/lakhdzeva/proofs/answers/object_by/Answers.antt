use Rattle.std.proofs.Common.{true, None, ap, ◌∙◌}
use Rattle.keys.specs.Limits.{limits}
use Rattle.octets.specs.Outcomes.{◌>>=◌}
use Rattle.tokens.specs.Verifying.{verifying_by}
use Rattle.lakhdzeva.specs.Code.{payload_of_object, verified_by}
use Rattle.lakhdzeva.proofs.Verified.{refused_alike, passes_on}
use Rattle.lakhdzeva.proofs.answers.object_by.Goals as goal

pub returns-in_err-jws_verify : goal.returns-in_err-jws_verify
returns-in_err-jws_verify c =
    let all = c.args.all in
    let keys = c.args.set.now in
    passes_on payload_of_object _ _ (verified_by limits all true keys None c.args.object.now) c.from_residual-in_err-jws_verify.ensures.1
    (λ inside. ap (λ read. read >>= verifying_by all true keys) c.in_ok-jws.ensures.exact
    ∙ refused_alike all _ true keys _ _ (c.in_err-jws_verify.ensures.answer inside))
