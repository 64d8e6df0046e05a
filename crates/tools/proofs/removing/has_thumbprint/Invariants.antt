use Rattle.std.proofs.Common.{◌≡◌, drop}
use Rattle.keys.specs.Texts.{is_among}
use Rattle.tools.proofs.removing.has_thumbprint.Given as goal

abbrev pub invariant-loop-print : goal.invariant-loop-print
invariant-loop-print l = is_among (drop l.print-index l.prints) l.name ≡ is_among l.prints l.name
