use Rattle.octets.proofs.Decoded.{octets_of_meaning}
use Rattle.octets.proofs.laws.base64url_decodes_to_octets.Goals as goal

pub returns : goal.returns
returns c = octets_of_meaning
