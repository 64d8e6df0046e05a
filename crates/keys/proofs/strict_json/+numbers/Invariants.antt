use Rattle.std.proofs.Common.{◌≡◌, drop}
use Rattle.serde_json.specs.View.{items_view, members_view}
use Rattle.keys.specs.Json.{item_numbers_are_whole, member_numbers_are_whole}
use Rattle.keys.proofs.strict_json.+numbers.Given as goal

-- the items that are left have whole numbers exactly if all items have
abbrev pub invariant-items_have_whole_numbers-loop-item : goal.invariant-items_have_whole_numbers-loop-item
invariant-items_have_whole_numbers-loop-item l =
    item_numbers_are_whole (items_view (drop l.item-index l.item-items)) ≡ item_numbers_are_whole (items_view l.item-items)

abbrev pub invariant-members_have_whole_numbers-loop-member : goal.invariant-members_have_whole_numbers-loop-member
invariant-members_have_whole_numbers-loop-member l =
    member_numbers_are_whole (members_view l.member-iterator) ≡ member_numbers_are_whole (members_view l.members.entries)
