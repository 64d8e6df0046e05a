use Rattle.jose.proofs.Headline.{encrypted_objects_go_there, encrypted_objects_go_back}
use Rattle.jose.proofs.laws.encrypted_objects_go_to_compact_form_and_back.Goals as goal

pub returns-clause-there : goal.returns-clause-there
returns-clause-there c = encrypted_objects_go_there c.jwe_compact_form_is_exact.ensures

pub returns-clause-back : goal.returns-clause-back
returns-clause-back c = encrypted_objects_go_back c.jwe_compact_form_is_exact.ensures c.jwe_objects_are_made.ensures c.jwe_texts_spell_objects.ensures
