use Rattle.objects.proofs.ExactJwe.{compact_texts_are_exact}
use Rattle.objects.proofs.laws.jwe_compact_texts_are_exact.Goals as goal

pub returns : goal.returns
returns c = compact_texts_are_exact
