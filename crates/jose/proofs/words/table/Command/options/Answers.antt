use Rattle.std.proofs.Common.{rules, tests}
use Rattle.std.proofs.lemmas.Iterator.{YieldsList-from_slice}
use Rattle.std.proofs.lemmas.Iterator.Search.{find_from_yields_List}
use Rattle.jose.proofs.Table.{is_for, options_found}
use Rattle.jose.proofs.words.table.Command.options.Goals as goal

pub unreachable-requires : goal.unreachable-requires
unreachable-requires c =
    let here = find_from_yields_List (is_for c.args.self) _ _ c.find.result c.find.ensures.ran (YieldsList-from_slice c.table.result.now cc)
    (λ x b q k. search (rules, tests)) in
    rw c.in-None.is at (options_found c.args.self c.table.result.now c.find.result c.table.ensures here)

pub returns : goal.returns
returns c =
    let here = find_from_yields_List (is_for c.args.self) _ _ c.find.result c.find.ensures.ran (YieldsList-from_slice c.table.result.now cc)
    (λ x b q k. search (rules, tests)) in
    rw c.in-Some.is at (options_found c.args.self c.table.result.now c.find.result c.table.ensures here)
