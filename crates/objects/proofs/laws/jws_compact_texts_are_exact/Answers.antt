use Rattle.objects.proofs.ExactJws.{compact_texts_are_exact}
use Rattle.objects.proofs.laws.jws_compact_texts_are_exact.Goals as goal

pub returns : goal.returns
returns c = compact_texts_are_exact
