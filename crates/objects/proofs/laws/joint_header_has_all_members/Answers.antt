use Rattle.objects.proofs.Names.{has_all_members}
use Rattle.objects.proofs.laws.joint_header_has_all_members.Goals as goal

pub returns : goal.returns
returns c = has_all_members
