use Rattle.objects.proofs.SpellingJweCompact.{texts_spell_objects}
use Rattle.objects.proofs.laws.jwe_texts_spell_objects.Goals as goal

pub returns : goal.returns
returns c = texts_spell_objects
