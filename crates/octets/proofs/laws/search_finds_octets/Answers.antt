use Rattle.octets.proofs.Search.{finds_octets}
use Rattle.octets.proofs.laws.search_finds_octets.Goals as goal

pub returns : goal.returns
returns c = finds_octets
