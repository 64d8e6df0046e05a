use Rattle.std.proofs.Common.{◌≡◌, ◌++◌, drop}
use Rattle.tools.specs.Printing.{printable}
use Rattle.tools.proofs.printing.add_printable.Given as goal

abbrev pub invariant-loop-octet : goal.invariant-loop-octet
invariant-loop-octet l = l.line.items ++ printable (drop l.octet-index l.octets) ≡ l.initial.line.items ++ printable l.octets
