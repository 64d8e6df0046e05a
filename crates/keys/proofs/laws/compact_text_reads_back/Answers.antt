use Rattle.keys.proofs.ReadingBack.{reads_back}
use Rattle.keys.proofs.laws.compact_text_reads_back.Goals as goal

pub returns : goal.returns
returns c = reads_back
