use Rattle.std.proofs.Common.{Ok, ap, rules}
use Rattle.octets.specs.Outcomes.{◌>>=◌}
use Rattle.objects.specs.Code.Views.{jws_view, written_view}
use Rattle.objects.specs.Code.Writing.{all_texts}
use Rattle.objects.proofs.JwsFrames.{is_jws_frame}
use Rattle.objects.proofs.JwsWritten.{jws_refused}
use Rattle.objects.proofs.jws.Jws.frame.Goals as goal

pub returns-in_err-written-clause-refused : goal.returns-in_err-written-clause-refused
returns-in_err-written-clause-refused c = search (rules, jws_refused)

pub returns-clause-texts : goal.returns-clause-texts
returns-clause-texts c =
    let frame = is_jws_frame c.args.compact c.args.detach (jws_view c.args.self.now) (all_texts (written_view c.in_ok-written.field-0))
    (ap (λ r. r >>= λ w. Ok (all_texts w)) c.in_ok-written.ensures) in
    search (rules, frame)
