use Rattle.std.proofs.Common.{◌==◌, Bor, option_map, rules, tests, sym, ap, ◌∙◌}
use Rattle.std.proofs.lemmas.Iterator.{YieldsList-from_slice}
use Rattle.std.proofs.lemmas.Iterator.Search.{find_from_yields_List}
use Rattle.jose.specs.declared.words.table.OptionRow.{OptionRow}
use Rattle.jose.specs.Code.Rows.{option_entry}
use Rattle.tools.proofs.Entries.{find-map, option_map-option_map}
use Rattle.tools.proofs.command_words.option_of.Goals as goal

pub returns : goal.returns
returns c =
    let options = c.args.options.now in
    option_map-option_map (λ (x : Bor OptionRow). x.now) option_entry c.find.result
    ∙ ap (option_map option_entry)
    (find_from_yields_List (λ row. row.0 == c.args.letter) _ _ c.find.result c.find.ensures.ran (YieldsList-from_slice options cc)
    (λ x b q k. search (rules, tests)))
    ∙ sym (find-map (λ option. option.letter == c.args.letter) option_entry options)
