use Rattle.std.proofs.Common.{◌∙◌}
use Rattle.keys.proofs.KeyMembers.{has_member}
use Rattle.keys.proofs.generating.has_member.Goals as goal

pub returns : goal.returns
returns c = c.contains_key.ensures ∙ has_member c.args.name.now c.args.members.now.entries
