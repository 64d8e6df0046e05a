use Rattle.tools.proofs.WholeFiles.{read_is}
use Rattle.tools.proofs.disk.read_whole.Goals as goal

pub returns : goal.returns
returns g c =
    let new = c.new-input.ensures in
    let source = c.source_of.ensures in
    read_is c.args.path.now c.new-input.result c.read_to_end.new.input c.source_of.result c.read_to_end.result new.reader source.named source.unopened
    new.consumed new.begins new.remaining new.failures c.read_to_end.ensures.whole
