use Rattle.tools.proofs.ShownPlaces.{shown_places_are_refused}
use Rattle.tools.proofs.laws.shown_places_are_refused.Goals as goal

pub returns : goal.returns
returns c = shown_places_are_refused
