use Rattle.std.proofs.Common.{rules, Ok, ap, sym, ◌∙◌}
use Rattle.keys.specs.Limits.{limits}
use Rattle.objects.specs.Code.Views.{jws_view, written_view}
use Rattle.objects.proofs.JwsWritten.{jws_whole, jws_refused}
use Rattle.objects.proofs.SpellingJwsCompact.{written_spells}
use Rattle.objects.proofs.jws.Jws.to_text.Goals as goal

pub returns-in_err-written-clause-exact : goal.returns-in_err-written-clause-exact
returns-in_err-written-clause-exact c = search (rules, jws_refused)

pub returns-clause-exact : goal.returns-clause-exact
returns-clause-exact c =
    jws_whole c.args.compact c.args.detach (jws_view c.args.self.now) (written_view c.in_ok-written.field-0) c.in_ok-written.ensures
    ∙ ap Ok (sym c.into_text.ensures)

pub returns-clause-spells : goal.returns-clause-spells
returns-clause-spells c made =
    written_spells limits c.args.compact c.args.detach (jws_view c.args.self.now) _ made (returns-clause-exact c)
