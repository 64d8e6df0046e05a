use Rattle.std.proofs.Common.{◌≡◌, ◌++◌, ℕ, List, drop, map}
use Rattle.jose.specs.Code.Rows.{option_entry}
use Rattle.jose.specs.Invocations.{settings_view}
use Rattle.tools.specs.CommandLines.{AreOptionTexts}
use Rattle.tools.proofs.command_lines.add_options.Given as goal

-- what the options that are left add makes it whole
abbrev pub invariant-loop-option : goal.invariant-loop-option
invariant-loop-option g l =
    let finds = g.F.FindFiles.finds l.files in
    let options = map option_entry l.options in
    let settings = settings_view l.invocation.options.items in
    (others : List ℕ) → AreOptionTexts finds options settings (map option_entry (drop l.option-index l.options)) others
    → (all : List ℕ) × ((l.text.items ++ others ≡ l.initial.text.items ++ all) × AreOptionTexts finds options settings options all)
