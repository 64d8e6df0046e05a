use Rattle.std.proofs.Common.{◌≡◌, ◌++◌, false, drop, map}
use Rattle.serde_json.specs.View.{items_view, members_view}
use Rattle.serde_json.specs.Written.{items_have_float, items_text, members_have_float, members_text}
use Rattle.tools.specs.ShownValues.{shown_items, shown_members}
use Rattle.tools.proofs.shown_values.+shown.Given as goal

abbrev pub invariant-add_items-loop-item : goal.invariant-add_items-loop-item
invariant-add_items-loop-item l =
    (l.text.items ++ items_text l.later (shown_items (map (λ n. n.now) l.names) (items_view (drop l.item-index l.item-items)))
    ≡ l.initial.text.items ++ items_text false (shown_items (map (λ n. n.now) l.names) (items_view l.item-items)))
    × (items_have_float (items_view (drop l.item-index l.item-items)) ≡ false)

abbrev pub invariant-add_members-loop-name : goal.invariant-add_members-loop-name
invariant-add_members-loop-name l =
    (l.text.items ++ members_text l.later (shown_members (map (λ n. n.now) l.names) (members_view l.name-iterator))
    ≡ l.initial.text.items ++ members_text false (shown_members (map (λ n. n.now) l.names) (members_view l.members.entries)))
    × (members_have_float (members_view l.name-iterator) ≡ false)
