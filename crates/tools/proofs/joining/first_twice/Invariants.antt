use Rattle.std.proofs.Common.{◌≡◌, ◌++◌, map, take, drop}
use Rattle.keys.specs.Code.Views.{key_view}
use Rattle.tools.specs.Sets.{first_twice}
use Rattle.tools.specs.SetViews.{all_keys}
use Rattle.tools.proofs.joining.first_twice.Given as goal

-- what the keys that are left have twice, with those before them, is what all have twice
abbrev pub invariant-loop-i : goal.invariant-loop-i
invariant-loop-i l = first_twice (all_keys l.sets ++ map key_view (take l.i l.keys)) (map key_view (drop l.i l.keys))
    ≡ first_twice (all_keys l.sets) (map key_view l.keys)
