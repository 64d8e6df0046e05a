use Rattle.std.proofs.Common.{◌≡◌, drop, nat_le}
use Rattle.serde_json.specs.Data.{items_depth, members_depth}
use Rattle.serde_json.specs.View.{items_view, members_view}
use Rattle.keys.proofs.strict_json.+depth.Given as goal

-- the items that are left are at most this deep exactly if all items are
abbrev pub invariant-items_nest_at_most-loop-item : goal.invariant-items_nest_at_most-loop-item
invariant-items_nest_at_most-loop-item l =
    nat_le (items_depth (items_view (drop l.item-index l.item-items))) l.depth ≡ nat_le (items_depth (items_view l.item-items)) l.depth

abbrev pub invariant-members_nest_at_most-loop-member : goal.invariant-members_nest_at_most-loop-member
invariant-members_nest_at_most-loop-member l =
    nat_le (members_depth (members_view l.member-iterator)) l.depth ≡ nat_le (members_depth (members_view l.members.entries)) l.depth
