use Rattle.std.proofs.Common.{◌≡◌, ℕ, ◌∷◌, ◌++◌, ◌+◌, List, [], drop, map, Option, option_map, Bor, get_or, sym, ap, ◌∙◌, arith, append_assoc}
use Rattle.std.proofs.lemmas.List.{drop_more}
use Rattle.clap.specs.Words.{Row, Text, found_of, first_of, rows_of}
use Rattle.clap.proofs.WalkLemmas.{first_value-rows}
use Rattle.jose.specs.Reading.{settings_of, setting_before, value_given}
use Rattle.jose.specs.Code.Rows.{option_entry, takes_of}
use Rattle.jose.specs.Invocations.{settings_view}
use Rattle.jose.specs.declared.words.table.OptionRow.{OptionRow}
use Rattle.jose.proofs.Settings.{no_option, setting_before-append}
use Rattle.jose.proofs.words.options.settings.Goals as goal

-- Adding the setting of the next option leads to the same settings.
one_more : (so_far now : List (ℕ × Text)) (left rest : List OptionRow) (o : OptionRow) (rows : List Row) (all : List (ℕ × Text)) (value : Option Text)
    → left ≡ o ∷ rest → value ≡ value_given (takes_of o.2) (first_of o.1.now rows) → now ≡ so_far ++ setting_before o.0 value []
    → so_far ++ settings_of (map option_entry left) rows ≡ all → now ++ settings_of (map option_entry rest) rows ≡ all
one_more so_far now left rest o rows all value here is added whole =
    let later = settings_of (map option_entry rest) rows in
    ap (λ l. l ++ later) added ∙ append_assoc so_far (setting_before o.0 value []) later
    ∙ ap (λ l. so_far ++ l) (setting_before-append o.0 value later ∙ ap (λ v. setting_before o.0 v later) is)
    ∙ ap (λ l. so_far ++ settings_of (map option_entry l) rows) (sym here) ∙ whole

pub loop-option-preserved : goal.loop-option-preserved
loop-option-preserved c =
    let m = found_of c.args.matches.now in
    let i = c.loop-option.option-index in
    let options = c.args.options.now in
    let o = get_or options i no_option in
    let value = option_map (λ (s : Bor (List ℕ)). s.now) c.value_of-value.result in
    let given : value ≡ value_given (takes_of o.2) (first_of o.1.now (rows_of m)) = c.value_of-value.ensures
    ∙ ap (value_given (takes_of o.2)) (c.get_str.ensures ∙ first_value-rows m o.1.now) in
    one_more (settings_view c.loop-option.settings.items) (settings_view c.add_setting.new.settings.items) (drop i options) (drop (i + 1) options) o (rows_of m)
    (settings_of (map option_entry options) (rows_of m)) value
    (drop_more options i no_option (omega arith)) given c.in_ok-add_setting.ensures c.loop-option.invariant
