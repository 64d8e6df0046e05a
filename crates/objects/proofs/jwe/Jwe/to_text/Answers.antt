use Rattle.std.proofs.Common.{rules, Ok, ap, sym, ◌∙◌}
use Rattle.keys.specs.Limits.{limits}
use Rattle.objects.specs.Code.Views.{jwe_view, written_view}
use Rattle.objects.proofs.JweWritten.{jwe_whole, jwe_refused}
use Rattle.objects.proofs.SpellingJweCompact.{written_spells}
use Rattle.objects.proofs.jwe.Jwe.to_text.Goals as goal

pub returns-in_err-written-clause-exact : goal.returns-in_err-written-clause-exact
returns-in_err-written-clause-exact c = search (rules, jwe_refused)

pub returns-clause-exact : goal.returns-clause-exact
returns-clause-exact c =
    jwe_whole c.args.compact c.args.detach (jwe_view c.args.self.now) (written_view c.in_ok-written.field-0) c.in_ok-written.ensures
    ∙ ap Ok (sym c.into_text.ensures)

pub returns-clause-spells : goal.returns-clause-spells
returns-clause-spells c made =
    written_spells limits c.args.compact c.args.detach (jwe_view c.args.self.now) _ made (returns-clause-exact c)
