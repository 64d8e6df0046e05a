use Rattle.keys.proofs.ValuesRead.{reads_json}
use Rattle.keys.proofs.laws.what_is_read_is_json.Goals as goal

pub returns : goal.returns
returns c = reads_json
