use Rattle.jose.proofs.Headline.{signed_objects_go_there, signed_objects_go_back}
use Rattle.jose.proofs.laws.signed_objects_go_to_compact_form_and_back.Goals as goal

pub returns-clause-there : goal.returns-clause-there
returns-clause-there c = signed_objects_go_there c.jws_compact_form_is_exact.ensures

pub returns-clause-back : goal.returns-clause-back
returns-clause-back c = signed_objects_go_back c.jws_compact_form_is_exact.ensures c.jws_objects_are_made.ensures c.jws_texts_spell_objects.ensures
