use Rattle.std.proofs.Common.{◌∙◌, ap, sym, codes, is_some}
use Rattle.serde_json.specs.Data.{array, put}
use Rattle.serde_json.specs.Find.{get_member}
use Rattle.serde_json.specs.View.{members_view}
use Rattle.serde_json.proofs.Views.{view-Array}
use Rattle.keys.specs.Generating.{string_items, key_ops_of}
use Rattle.keys.proofs.KeyMembers.{by_first, by_second, by_neither, on_ok}
use Rattle.keys.proofs.generating.add_operations.Goals as goal
use Rattle.keys.proofs.generating.add_operations.Goals.{then-has_member-via-then-has_member, then-has_member-via-else-has_member+then-has_member-2}

pub returns-then-has_member : goal.returns-then-has_member
returns-then-has_member c =
    let members = members_view c.args.members.now.entries in
    let key_ops = is_some (get_member (codes "key_ops") members) in
    let key_use = is_some (get_member (codes "use") members) in
    let added = put (codes "key_ops") (array (string_items (key_ops_of c.args.alg))) members in
    elim c.then-has_member.branch [
      | then-has_member-via-then-has_member w ↦ by_first key_ops key_use members added (sym c.has_member.ensures ∙ w.if-has_member.true)
      | then-has_member-via-else-has_member+then-has_member-2 w ↦
          by_second key_ops key_use members added (sym w.has_member-else-has_member.ensures ∙ w.if-has_member-2.true)
    ]

pub returns : goal.returns
returns c =
    let members = members_view c.args.members.now.entries in
    on_ok c.put.result
    (λ there. there
    ∙ ap (λ value. put (codes "key_ops") value members) (view-Array c.in_ok-key_ops.key_ops ∙ ap array c.in_ok-key_ops.ensures)
    ∙ by_neither _ _ _ _ (sym c.has_member.ensures ∙ c.if-has_member.false) (sym c.has_member-else-has_member.ensures ∙ c.if-has_member-2.false))
    c.put.ensures.ok
