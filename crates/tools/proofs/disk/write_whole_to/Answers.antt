use Rattle.std.proofs.Common.{◌∙◌, ◌++◌, ap}
use Rattle.tools.proofs.disk.write_whole_to.Goals as goal

pub returns-in-Ok : goal.returns-in-Ok
returns-in-Ok g c = record {
  before = c.new-output.result;
  after = c.emit.new.out;
  new = c.new-output.ensures.written;
  whole = (c.in-Ok.ensures.all ∙ ap (λ front. front ++ c.args.octets.now) c.new-output.ensures.written, c.in-Ok.ensures.finished);
}
