use Rattle.objects.proofs.BuildingJwe.{building_is_reading}
use Rattle.objects.proofs.laws.jwe_building_is_reading.Goals as goal

pub returns : goal.returns
returns c = building_is_reading
