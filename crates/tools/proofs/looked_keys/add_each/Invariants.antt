use Rattle.std.proofs.Common.{◌≡◌, ◌++◌, false, drop, map, option_map}
use Rattle.serde_json.specs.View.{items_view}
use Rattle.serde_json.specs.Written.{items_have_float}
use Rattle.keys.specs.Code.Views.{key_view}
use Rattle.tools.specs.LookedKeys.{each_key_line}
use Rattle.tools.specs.Printing.{printed}
use Rattle.tools.proofs.looked_keys.add_each.Given as goal

abbrev pub invariant-loop-i : goal.invariant-loop-i
invariant-loop-i l = (l.out.items ++ printed (each_key_line (items_view (drop l.i l.objects)) (drop l.i (map (option_map key_view) l.keys)))
    ≡ l.initial.out.items ++ printed (each_key_line (items_view l.objects) (map (option_map key_view) l.keys)))
    × (items_have_float (items_view (drop l.i l.objects)) ≡ false)
