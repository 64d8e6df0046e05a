use Rattle.keys.proofs.DeepTexts.{deep_texts}
use Rattle.keys.proofs.laws.deep_texts_are_refused.Goals as goal

pub returns : goal.returns
returns c = deep_texts
