use Rattle.std.proofs.Common.{rules, tests}
use Rattle.std.proofs.lemmas.Iterator.{YieldsList-from_slice}
use Rattle.std.proofs.lemmas.Iterator.Search.{find_from_yields_List}
use Rattle.jose.specs.Commands.{same_role}
use Rattle.jose.specs.Code.Rows.{option_entry}
use Rattle.jose.proofs.Finding.{found_mapped}
use Rattle.jose.proofs.words.table.Command.option_with.Goals as goal

pub returns : goal.returns
returns c =
    let options = c.options.result.now in
    found_mapped (λ entry. same_role entry.role c.args.role) option_entry options _ c.find.result c.options.ensures
    (find_from_yields_List (λ row. same_role row.3 c.args.role) _ _ c.find.result c.find.ensures.ran (YieldsList-from_slice options cc)
    (λ x b q k. search (rules, tests)))
