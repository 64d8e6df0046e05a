use Rattle.std.proofs.Common.{◌≡◌, ◌∙◌, true, Ok, refl, sym, ap, rules}
use Rattle.octets.specs.Devices.{appended}
use Rattle.octets.proofs.Lemmas.{AppendsPrefixOf-kept, at_refusal, agrees_last, appended-append}
use Rattle.objects.specs.Code.Views.{jws_view}
use Rattle.tokens.specs.Verifying.{verifying_by_least}
use Rattle.tokens.proofs.verify.jws_verify_least.Goals as goal

pub returns-in_err-verified-in-Some-clause-held_back : goal.returns-in_err-verified-in-Some-clause-held_back
returns-in_err-verified-in-Some-clause-held_back g c = rw (c.in-Some.is) (search rules)

pub returns-in_err-verified-in-Some-clause-faults : goal.returns-in_err-verified-in-Some-clause-faults
returns-in_err-verified-in-Some-clause-faults g c = rw (c.in-Some.is) (search rules)

pub returns-in_err-verified-in-Some-clause-beginning : goal.returns-in_err-verified-in-Some-clause-beginning
returns-in_err-verified-in-Some-clause-beginning g c = rw (c.in-Some.is) (at_refusal c.from_residual.result (AppendsPrefixOf-kept _ _))

pub returns-in_ok-verified-in-Some-clause-answer : goal.returns-in_ok-verified-in-Some-clause-answer
unfolding verifying_by_least
returns-in_ok-verified-in-Some-clause-answer g c =
    let old = g.O.Output.written c.in-Some.out.now in
    let payload = (jws_view c.args.jws.now).payload in
    let is : verifying_by_least c.args.least true c.args.keys.now (jws_view c.args.jws.now) ≡ Ok payload = rw (c.in_ok-verified-in-Some.ensures.exact) refl in
    rw (c.in-Some.is) (agrees_last _ _ c.write_payload.result c.write_payload.ensures.all c.write_payload.ensures.cause
    (λ all. is ∙ ap Ok (sym (ap (appended old) all ∙ appended-append old payload))))

pub returns-in_ok-verified-in-Some-clause-beginning : goal.returns-in_ok-verified-in-Some-clause-beginning
unfolding verifying_by_least
returns-in_ok-verified-in-Some-clause-beginning g c = rw (c.in-Some.is) (search rules)

pub returns-in_ok-verified-in-Some-clause-finished : goal.returns-in_ok-verified-in-Some-clause-finished
returns-in_ok-verified-in-Some-clause-finished g c = rw (c.in-Some.is) c.write_payload.ensures.finished

pub returns-in_ok-verified-in-Some-clause-faults : goal.returns-in_ok-verified-in-Some-clause-faults
returns-in_ok-verified-in-Some-clause-faults g c = rw (c.in-Some.is) (search rules)

pub returns-in_err-verified-in-Some-clause-unfinished : goal.returns-in_err-verified-in-Some-clause-unfinished
returns-in_err-verified-in-Some-clause-unfinished g c = rw (c.in-Some.is) (at_refusal c.from_residual.result refl)

pub returns-in_ok-verified-in-Some-clause-unfinished : goal.returns-in_ok-verified-in-Some-clause-unfinished
returns-in_ok-verified-in-Some-clause-unfinished g c = rw (c.in-Some.is) c.write_payload.ensures.unfinished
