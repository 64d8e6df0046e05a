use Rattle.objects.proofs.SpellingJwsCompact.{texts_spell_objects}
use Rattle.objects.proofs.laws.jws_texts_spell_objects.Goals as goal

pub returns : goal.returns
returns c = texts_spell_objects
