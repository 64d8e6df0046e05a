use Rattle.octets.proofs.Meanings.{decodes_exactly}
use Rattle.octets.proofs.laws.base64url_decodes_exactly.Goals as goal

pub returns : goal.returns
returns c = decodes_exactly
