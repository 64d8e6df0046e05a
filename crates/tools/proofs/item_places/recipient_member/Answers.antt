use Rattle.tools.specs.ItemPlaces.{recipient_members}
use Rattle.tools.proofs.item_places.recipient_member.Goals as goal

pub returns : goal.returns
unfolding recipient_members
returns c = cc
