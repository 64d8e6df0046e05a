use Rattle.tokens.proofs.Decrypting.Fewer.{fewer_iterations_refuse}
use Rattle.tokens.proofs.laws.fewer_iterations_only_refuse.Goals as goal

pub returns : goal.returns
returns c = fewer_iterations_refuse
