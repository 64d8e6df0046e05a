use Rattle.octets.proofs.Growing.{decoding_grows}
use Rattle.octets.proofs.laws.decoding_grows.Goals as goal

pub returns : goal.returns
returns c = decoding_grows
