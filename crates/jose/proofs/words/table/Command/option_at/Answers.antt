use Rattle.std.proofs.Common.{◌==◌, rules, tests}
use Rattle.std.proofs.lemmas.Iterator.{YieldsList-from_slice}
use Rattle.std.proofs.lemmas.Iterator.Search.{find_from_yields_List}
use Rattle.jose.specs.Code.Rows.{option_entry}
use Rattle.jose.proofs.Finding.{found_mapped}
use Rattle.jose.proofs.words.table.Command.option_at.Goals as goal

pub returns : goal.returns
returns c =
    let options = c.options.result.now in
    found_mapped (λ entry. entry.letter == c.args.letter) option_entry options _ c.find.result c.options.ensures
    (find_from_yields_List (λ row. row.0 == c.args.letter) _ _ c.find.result c.find.ensures.ran (YieldsList-from_slice options cc)
    (λ x b q k. search (rules, tests)))
