use Rattle.tools.specs.ObjectPlaces.{encrypted_members}
use Rattle.tools.proofs.object_places.encrypted_member.Goals as goal

pub returns : goal.returns
unfolding encrypted_members
returns c = cc
