use Rattle.keys.proofs.SetMembers.{keys_are_good_members}
use Rattle.keys.proofs.laws.keys_are_good_members.Goals as goal

pub returns : goal.returns
returns c = keys_are_good_members
