use Rattle.std.proofs.Common.{◌≡◌, map, drop, string_bytes}
use Rattle.keys.specs.Texts.{is_among}
use Rattle.tools.proofs.removing.is_named.Given as goal

abbrev pub invariant-loop-name : goal.invariant-loop-name
invariant-loop-name l = is_among (map string_bytes (drop l.name-index l.names)) l.print ≡ is_among (map string_bytes l.names) l.print
