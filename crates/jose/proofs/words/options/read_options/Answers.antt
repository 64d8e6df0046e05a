use Rattle.std.proofs.Common.{Ok, map, string_bytes, sym, ap, ◌∙◌, subst}
use Rattle.std.proofs.lemmas.Bool.{and_parts}
use Rattle.clap.specs.Words.{App, Kinds, HasKind, app_of, fault_of, is_simple, is_simple_and_free, matches_of}
use Rattle.clap.specs.Faults.{is_free_app}
use Rattle.clap.specs.Simple.{built}
use Rattle.jose.specs.Code.Rows.{option_entry}
use Rattle.jose.specs.Reading.{settings_of}
use Rattle.jose.proofs.Parses.{accepted, refused}
use Rattle.jose.proofs.words.options.read_options.Goals as goal

pub returns-in_ok-settings-in-Ok : goal.returns-in_ok-settings-in-Ok
returns-in_ok-settings-in-Ok c =
    let made = c.in_ok-command.ensures in
    let options = map option_entry c.args.options.now in
    let words = map string_bytes c.args.words.now in
    let free = ap is_simple_and_free made ∙ c.requires in
    let simple = (and_parts (is_simple (app_of c.in_ok-command.command)) (is_free_app (built (app_of c.in_ok-command.command))) free).0 in
    let rows = (c.in-Ok.ensures.matches simple).0 ∙ ap (λ (app : App). matches_of app words) made in
    accepted options words (sym (ap (λ (app : App). fault_of app words) made) ∙ c.in-Ok.ensures.kinds free)
    ∙ ap Ok (sym (c.in_ok-settings-in-Ok.ensures ∙ ap (settings_of options) rows))

pub returns-in-Err : goal.returns-in-Err
returns-in-Err c =
    let made = c.in_ok-command.ensures in
    let options = map option_entry c.args.options.now in
    let words = map string_bytes c.args.words.now in
    let kinds = c.in-Err.ensures.kinds (ap is_simple_and_free made ∙ c.requires) in
    let same = ap (λ (app : App). fault_of app words) made in
    refused options words c.in-Err.error c.refusal_for.result (subst (λ (ks : Kinds). HasKind ks c.in-Err.error) same kinds) c.refusal_for.ensures
