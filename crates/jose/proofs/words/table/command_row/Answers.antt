use Rattle.jose.specs.Words.{has_words, commands}
use Rattle.jose.specs.Code.Rows.{command_entry}
use Rattle.jose.proofs.Finding.{found_mapped}
use Rattle.jose.proofs.Table.{found_simple}
use Rattle.jose.proofs.words.table.command_row.Goals as goal

pub returns : goal.returns
returns c =
    let noun = c.args.noun.now in
    let verb = c.args.verb.now in
    let found = found_mapped (has_words noun verb) command_entry c.table.result.now commands c.row_among.result c.table.ensures c.row_among.ensures in
    record { row = found; simple = found_simple noun verb c.row_among.result found }
