use Rattle.tools.specs.Places.{naming_places}
use Rattle.tools.proofs.header_places.naming_place.Goals as goal

pub returns : goal.returns
unfolding naming_places
returns c = cc
