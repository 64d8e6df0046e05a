use Rattle.std.proofs.Common.{◌≡◌, map}
use Rattle.serde_json.specs.View.{members_view}
use Rattle.keys.specs.Json.{members_have_only}
use Rattle.keys.proofs.strict_json.members_have_only.Given as goal

-- the members that are left have only these names exactly if all members have
abbrev pub invariant-loop-name : goal.invariant-loop-name
invariant-loop-name l =
    members_have_only (map (λ n. n.now) l.names) (members_view l.name-iterator) ≡ members_have_only (map (λ n. n.now) l.names) (members_view l.members.entries)
