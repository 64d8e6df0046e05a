use Rattle.std.proofs.Common.{[], false, ap, subst, sym, ◌∙◌}
use Rattle.objects.specs.HandedIn.{with_payload}
use Rattle.objects.specs.Code.Views.{jws_view}
use Rattle.octets.specs.Outcomes.{AgreesUnlessExternal}
use Rattle.tokens.specs.Verifying.{verifying_by_least}
use Rattle.tokens.proofs.Verifying.Least.{verifying_alike}
use Rattle.tokens.proofs.verify.detached.jws_verify_detached.Goals as goal

pub returns-clause-answer : goal.returns-clause-answer
returns-clause-answer g c payload may =
    let o = with_payload payload (jws_view c.args.jws.now) in
    subst (λ a. AgreesUnlessExternal a [] c.jws_verify_detached_least.result)
    (ap (λ n. verifying_by_least n false c.args.keys.now o) c.least_of.ensures ∙ sym (verifying_alike c.args.all false c.args.keys.now o))
    (c.jws_verify_detached_least.ensures.answer payload may)
