use Rattle.objects.proofs.CompactForm.{jwe_compact_form_is_exact}
use Rattle.objects.proofs.laws.jwe_compact_form_is_exact.Goals as goal

pub returns : goal.returns
returns c = jwe_compact_form_is_exact
