use Rattle.keys.proofs.JsonParts.{keep_json}
use Rattle.keys.proofs.laws.members_keep_json.Goals as goal

pub returns : goal.returns
returns c = keep_json
