use Rattle.std.proofs.Common.{◌≡◌, ◌++◌, ◌+◌, ◌<◌, ℕ, List, [], drop, map, get_or, length, refl, sym, ap, subst, ◌∙◌, append_assoc, append-nil, arith, length-drop}
use Rattle.std.proofs.lemmas.List.{drop_more, nil_from_length}
use Rattle.jose.specs.Commands.{OptionEntry}
use Rattle.jose.specs.Invocations.{Settings, settings_view}
use Rattle.jose.specs.Code.Rows.{option_entry}
use Rattle.tools.specs.CommandLines.{AreOptionTexts, IsOptionText}
use Rattle.tools.specs.declared.command_files.Found.{Found}
use Rattle.jose.specs.declared.words.table.OptionRow.{OptionRow}
use Rattle.tools.proofs.command_lines.add_options.Goals as goal

-- the text of one more option in front of the others
one_more : (finds : List ℕ → Found → Type 0) (all : List OptionEntry) (settings : Settings) (rows : List OptionRow) (i : ℕ) (d : OptionRow)
    (one others : List ℕ) → i < length rows → IsOptionText finds all settings (option_entry (get_or rows i d)) one
    → AreOptionTexts finds all settings (map option_entry (drop (i + 1) rows)) others
    → AreOptionTexts finds all settings (map option_entry (drop i rows)) (one ++ others)
one_more finds all settings rows i d one others below is are =
    subst (λ l. AreOptionTexts finds all settings (map option_entry l) (one ++ others)) (sym (drop_more rows i d below)) (one, (others, (refl, is, are)))

pub loop-option-preserved : goal.loop-option-preserved
loop-option-preserved g c others are =
    let it = c.in_ok-add_option.ensures in
    let whole = c.loop-option.invariant (it.0 ++ others) (one_more _ _ _ c.args.options.now c.loop-option.option-index _ it.0 others (omega arith) it.1.1 are) in
    (whole.0, (ap (λ l. l ++ others) it.1.0 ∙ append_assoc c.loop-option.text.items it.0 others ∙ whole.1.0, whole.1.1))

pub returns : goal.returns
returns g c =
    let none : drop c.loop-option.option-index c.args.options.now ≡ []
    = nil_from_length (drop c.loop-option.option-index c.args.options.now) (omega (arith, length-drop c.loop-option.option-index c.args.options.now)) in
    let finds = g.F.FindFiles.finds c.args.files.now in
    let options = map option_entry c.args.options.now in
    let settings = settings_view c.args.invocation.now.options.items in
    let whole = c.loop-option.invariant [] (subst (λ l. AreOptionTexts finds options settings (map option_entry l) []) (sym none) refl) in
    (whole.0, (sym (append-nil c.loop-option.text.items) ∙ whole.1.0, whole.1.1))
