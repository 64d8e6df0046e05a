use Rattle.objects.proofs.MadeJwe.{objects_are_made}
use Rattle.objects.proofs.laws.jwe_objects_are_made.Goals as goal

pub returns : goal.returns
returns c = objects_are_made
