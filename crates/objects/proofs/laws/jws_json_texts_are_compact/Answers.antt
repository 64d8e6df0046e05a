use Rattle.objects.proofs.BuildingJws.{json_texts_are_compact}
use Rattle.objects.proofs.laws.jws_json_texts_are_compact.Goals as goal

pub returns : goal.returns
returns c = json_texts_are_compact
