use Rattle.octets.proofs.Characters.{has_url_characters}
use Rattle.octets.proofs.laws.base64url_has_url_characters.Goals as goal

pub returns : goal.returns
returns c = has_url_characters
