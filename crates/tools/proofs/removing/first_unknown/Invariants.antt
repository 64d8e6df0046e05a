use Rattle.std.proofs.Common.{◌≡◌, map, drop, string_bytes}
use Rattle.tools.specs.Sets.{first_unknown}
use Rattle.tools.proofs.removing.first_unknown.Given as goal

abbrev pub invariant-loop-i : goal.invariant-loop-i
invariant-loop-i l = first_unknown l.i l.prints (map string_bytes (drop l.i l.names)) ≡ first_unknown 0 l.prints (map string_bytes l.names)
