use Rattle.std.proofs.Common.{◌≡◌, ◌++◌}
use Rattle.std.specs.Iterator.{IsFinite, size}
use Rattle.octets.proofs.whole.read_to_end.Given as goal

abbrev pub invariant-reads : goal.invariant-reads
invariant-reads g l =
    let input = g.I.Input in record {
      consumed : input.consumed l.input ≡ input.consumed l.fn.input ++ l.octets.items;
      source : input.source l.input ≡ input.source l.fn.input;
      works : input.failures l.input ≡ input.failures l.fn.input;
      finite : IsFinite (input.remaining l.input);
    }

abbrev pub decreases-reads : goal.decreases-reads
decreases-reads g l = size (g.I.Input.remaining l.input)
