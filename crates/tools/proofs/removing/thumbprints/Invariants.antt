use Rattle.std.proofs.Common.{◌≡◌, map, take}
use Rattle.keys.specs.Code.Views.{key_view}
use Rattle.tools.specs.Sets.{thumbprints}
use Rattle.tools.proofs.removing.thumbprints.Given as goal

abbrev pub invariant-loop-key : goal.invariant-loop-key
invariant-loop-key l = l.prints.items ≡ thumbprints (map key_view (take l.key-index l.keys))
