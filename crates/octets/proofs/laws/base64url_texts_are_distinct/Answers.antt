use Rattle.octets.proofs.Meanings.{texts_are_distinct}
use Rattle.octets.proofs.laws.base64url_texts_are_distinct.Goals as goal

pub returns : goal.returns
returns c = texts_are_distinct
