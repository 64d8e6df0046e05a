use Rattle.std.proofs.Common.{◌≡◌, [], ◌∷◌, ◌+◌, List, length, get_or, drop, map, true, sym, ap, ◌∙◌, arith}
use Rattle.std.proofs.Math.Seq.{drop-length}
use Rattle.std.proofs.lemmas.List.{drop_more}
use Rattle.clap.specs.Simple.{app_of_fields}
use Rattle.clap.specs.declared.builder.command.Command.{Command, Command-F}
use Rattle.clap.specs.Words.{App, app_of, with_rule}
use Rattle.jose.specs.Reading.{bare, rule_for, with_options}
use Rattle.jose.specs.Code.Rows.{option_entry}
use Rattle.jose.specs.declared.words.table.OptionRow.{OptionRow}
use Rattle.jose.proofs.Settings.{no_option}
use Rattle.jose.proofs.words.options.command_of.Goals as goal

pub loop-option-init : goal.loop-option-init
loop-option-init c =
    let made : app_of c.disable_help_flag-command.result ≡ bare =
    ap app_of_fields (c.disable_help_flag-command.ensures
    ∙ ap (λ (fields : Command-F Command). record fields { disable_help_flag = true }) c.no_binary_name.ensures)
    ∙ ap (λ (app : App). record app { top = record app.top { no_binary_name = true; disable_help_flag = true } }) c.new.ensures.app
    in
    ap (with_options (map option_entry c.args.options.now)) made

-- Adding the next option leads to the same whole command.
one_more : (left rest : List OptionRow) (o : OptionRow) (old new all : App) → left ≡ o ∷ rest → new ≡ with_rule old (rule_for (option_entry o))
    → with_options (map option_entry left) old ≡ all → with_options (map option_entry rest) new ≡ all
one_more left rest o old new all here added whole = ap (with_options (map option_entry rest)) added
    ∙ ap (λ l. with_options (map option_entry l) old) (sym here) ∙ whole

pub loop-option-preserved : goal.loop-option-preserved
loop-option-preserved c =
    let i = c.loop-option.option-index in
    let options = c.args.options.now in
    let old = app_of c.loop-option.command in
    one_more (drop i options) (drop (i + 1) options) (get_or options i no_option) old _ _ (drop_more options i no_option (omega arith))
    (c.in_ok-command.ensures.shape c.argument_of.ensures.local ∙ ap (with_rule old) c.argument_of.ensures.rule) c.loop-option.invariant

pub returns : goal.returns
returns c =
    let options = c.args.options.now in
    let all : c.loop-option.option-index ≡ length options = omega arith in
    let none : drop c.loop-option.option-index options ≡ [] = ap (λ n. drop n options) all ∙ drop-length options in
    sym (ap (λ left. with_options (map option_entry left) (app_of c.loop-option.command)) none) ∙ c.loop-option.invariant
