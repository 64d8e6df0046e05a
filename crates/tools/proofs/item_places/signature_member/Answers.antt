use Rattle.tools.specs.ItemPlaces.{signature_members}
use Rattle.tools.proofs.item_places.signature_member.Goals as goal

pub returns : goal.returns
unfolding signature_members
returns c = cc
