use Rattle.std.specs.Io.KnownBytes.{Keeps}
use Rattle.octets.proofs.streams.flush_once.Given as goal

-- the calls that were interrupted left the writer unchanged
abbrev pub invariant-flushes : goal.invariant-flushes
invariant-flushes g l = Keeps (g.W.Write.contents l.fn.writer) (g.W.Write.contents l.writer)
