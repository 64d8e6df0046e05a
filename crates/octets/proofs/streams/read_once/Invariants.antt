use Rattle.std.specs.Io.KnownBytes.{Keeps}
use Rattle.octets.proofs.streams.read_once.Given as goal

-- the calls that were interrupted left the reader unchanged
abbrev pub invariant-reads : goal.invariant-reads
invariant-reads g l = Keeps (g.R.Read.remaining l.fn.reader) (g.R.Read.remaining l.reader)
