use Rattle.objects.proofs.BuildingJws.{building_is_reading}
use Rattle.objects.proofs.laws.jws_building_is_reading.Goals as goal

pub returns : goal.returns
returns c = building_is_reading
