use Rattle.std.proofs.Common.{◌≡◌, drop}
use Rattle.serde_json.specs.View.{items_view}
use Rattle.keys.specs.Limits.{limits}
use Rattle.keys.specs.SetMembers.{members_of}
use Rattle.keys.proofs.SetMembers.{members_with}
use Rattle.keys.proofs.set.members_of.Given as goal

-- the members so far and those of the objects that are left are all members
abbrev pub invariant-loop-value : goal.invariant-loop-value
invariant-loop-value l = members_of limits (items_view l.objects) ≡ members_with l.members.items (drop l.value-index l.objects)
