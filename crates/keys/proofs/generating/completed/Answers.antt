use Rattle.std.proofs.Common.{◌≡◌, ◌∙◌, Some, codes, ap, sym}
use Rattle.serde_json.specs.Data.{put, string}
use Rattle.serde_json.specs.View.{members_view}
use Rattle.keys.specs.Generating.{with_operations, without}
use Rattle.keys.proofs.KeyMembers.{members_view-remove_entry}
use Rattle.keys.proofs.generating.completed.Goals as goal
use Rattle.keys.proofs.generating.completed.Goals.{in-Some+in_ok-add_operations, in_default}

pub returns : goal.returns
returns c =
    let left = without (codes "bytes") (members_view c.args.members.entries) in
    let removed : members_view c.remove.new.self.entries ≡ left =
    ap members_view c.remove.ensures.entries ∙ members_view-remove_entry (codes "bytes") c.args.members.entries in
    let joined : members_view c.match-alg.members.entries ≡ with_operations c.args.alg left =
    elim c.match-alg.branch [
      | in-Some+in_ok-add_operations w ↦
          ap (λ members. members_view members.entries) w.members-is ∙ w.in_ok-add_operations.ensures ∙ ap (with_operations (Some w.in-Some.alg)) removed
          ∙ sym (ap (λ alg. with_operations alg left) w.in-Some.is)
      | in_default w ↦
          ap (λ members. members_view members.entries) w.members-is ∙ removed
          ∙ sym (ap (λ alg. with_operations alg left) w.in_default.is)
    ] in
    c.in_ok-put.ensures.ok ∙ ap (λ value. put (codes "kty") value (members_view c.match-alg.members.entries)) c.in_ok-try_from_str.ensures
    ∙ ap (put (codes "kty") (string (codes "oct"))) joined
