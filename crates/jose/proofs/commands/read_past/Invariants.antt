use Rattle.std.proofs.Common.{◌≡◌}
use Rattle.std.specs.Iterator.{IsFinite, size}
use Rattle.jose.proofs.commands.read_past.Given as goal

abbrev pub invariant-pieces : goal.invariant-pieces
invariant-pieces g l =
    let input = g.I.Input in record {
      works : input.failures l.content ≡ input.failures l.fn.content;
      finite : IsFinite (input.remaining l.content);
    }

abbrev pub decreases-pieces : goal.decreases-pieces
decreases-pieces g l = size (g.I.Input.remaining l.content)
