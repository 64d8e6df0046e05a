use Rattle.keys.proofs.KeyOctets.{keys_have_octets}
use Rattle.keys.proofs.laws.keys_have_octets.Goals as goal

pub returns : goal.returns
returns c = keys_have_octets
