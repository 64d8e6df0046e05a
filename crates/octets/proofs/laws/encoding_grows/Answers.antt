use Rattle.octets.proofs.Growing.{encoding_grows}
use Rattle.octets.proofs.laws.encoding_grows.Goals as goal

pub returns : goal.returns
returns c = encoding_grows
