use Rattle.std.proofs.Common.{false, true}
use Rattle.objects.specs.Code.Views.{jws_view}
use Rattle.tokens.proofs.Verifying.Detached.{unwanted}
use Rattle.tokens.proofs.Verifying.Least.{verifying_alike}
use Rattle.tokens.proofs.verify.jws_verify.Goals as goal

pub returns-in-None-clause-answer : goal.returns-in-None-clause-answer
returns-in-None-clause-answer g c =
    let o = jws_view c.args.jws.now in
    rw (c.in-None.is, verifying_alike c.args.all false c.args.keys.now o, ← c.least_of-least.ensures)
    (unwanted c.least_of-least.result c.args.keys.now o o.payload c.verified.result c.verified.ensures.exact)

pub returns-in-Some-clause-answer : goal.returns-in-Some-clause-answer
returns-in-Some-clause-answer g c =
    rw (c.in-Some.is, verifying_alike c.args.all true c.args.keys.now (jws_view c.args.jws.now), ← c.least_of-least.ensures) c.jws_verify_least.ensures.answer

pub returns-in-Some-clause-held_back : goal.returns-in-Some-clause-held_back
returns-in-Some-clause-held_back g c = rw (c.in-Some.is) c.jws_verify_least.ensures.held_back

pub returns-in-Some-clause-beginning : goal.returns-in-Some-clause-beginning
returns-in-Some-clause-beginning g c =
    rw (c.in-Some.is, verifying_alike c.args.all true c.args.keys.now (jws_view c.args.jws.now), ← c.least_of-least.ensures)
    c.jws_verify_least.ensures.beginning

pub returns-in-Some-clause-finished : goal.returns-in-Some-clause-finished
returns-in-Some-clause-finished g c = rw (c.in-Some.is) c.jws_verify_least.ensures.finished

pub returns-in-Some-clause-unfinished : goal.returns-in-Some-clause-unfinished
returns-in-Some-clause-unfinished g c = rw (c.in-Some.is) c.jws_verify_least.ensures.unfinished

pub returns-in-Some-clause-faults : goal.returns-in-Some-clause-faults
returns-in-Some-clause-faults g c = rw (c.in-Some.is) c.jws_verify_least.ensures.faults
