use Rattle.std.proofs.Common.{◌≡◌, drop}
use Rattle.tools.specs.Sets.{has_octets}
use Rattle.tools.specs.SetViews.{all_keys}
use Rattle.tools.proofs.joining.are_in_sets.Given as goal

abbrev pub invariant-loop-set : goal.invariant-loop-set
invariant-loop-set l = has_octets (all_keys (drop l.set-index l.sets)) l.octets ≡ has_octets (all_keys l.sets) l.octets
