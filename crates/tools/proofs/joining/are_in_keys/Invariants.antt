use Rattle.std.proofs.Common.{◌≡◌, map, drop}
use Rattle.keys.specs.Code.Views.{key_view}
use Rattle.tools.specs.Sets.{has_octets}
use Rattle.tools.proofs.joining.are_in_keys.Given as goal

abbrev pub invariant-loop-key : goal.invariant-loop-key
invariant-loop-key l = has_octets (map key_view (drop l.key-index l.keys)) l.octets ≡ has_octets (map key_view l.keys) l.octets
