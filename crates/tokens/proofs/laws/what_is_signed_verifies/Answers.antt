use Rattle.tokens.proofs.Signing.RoundTrip.{signed_verifies}
use Rattle.tokens.proofs.laws.what_is_signed_verifies.Goals as goal

pub returns : goal.returns
returns c = signed_verifies c.jws_texts_spell_objects.ensures
