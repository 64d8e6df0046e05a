use Rattle.objects.proofs.CompactForm.{jws_compact_form_is_exact}
use Rattle.objects.proofs.laws.jws_compact_form_is_exact.Goals as goal

pub returns : goal.returns
returns c = jws_compact_form_is_exact
