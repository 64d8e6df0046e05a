use Rattle.std.proofs.Common.{◌≡◌, ◌∙◌, ◌++◌, List, Option, map, option_map, OnOk, ap, subst}
use Rattle.serde_json.specs.View.{items_view}
use Rattle.keys.specs.Keys.{OctetKey}
use Rattle.keys.specs.Code.Views.{key_view}
use Rattle.tools.specs.LookedKeys.{each_key_line}
use Rattle.tools.specs.Printing.{printed}
use Rattle.tools.proofs.LookedKeys.{good_keys, no_good_keys}
use Rattle.tools.proofs.looked_keys.add_few.Goals as goal

pub returns-in-Ok : goal.returns-in-Ok
returns-in-Ok c =
    let objects = items_view c.args.objects.now in
    let same = ap (map (option_map key_view)) c.deref.ensures.value ∙ good_keys c.args.text.now objects _ c.requires.read c.requires.few c.in-Ok.ensures in
    subst (λ (keys : List (Option OctetKey)). OnOk c.add_each.result (c.add_each.new.out.items ≡ c.args.out.now.items ++ printed (each_key_line objects keys)))
    same c.add_each.ensures

pub returns-in_ok-unless_memory-in-Err : goal.returns-in_ok-unless_memory-in-Err
returns-in_ok-unless_memory-in-Err c =
    let objects = items_view c.args.objects.now in
    let refused = c.in-Err.ensures c.in_ok-unless_memory-in-Err.ensures.other in
    subst (λ lines. OnOk c.add_each-in-Err.result (c.add_each-in-Err.new.out.items ≡ c.args.out.now.items ++ printed lines))
    (no_good_keys c.args.text.now objects _ c.requires.read c.requires.few refused.0) c.add_each-in-Err.ensures
