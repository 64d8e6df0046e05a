use Rattle.objects.proofs.MadeJws.{objects_are_made}
use Rattle.objects.proofs.laws.jws_objects_are_made.Goals as goal

pub returns : goal.returns
returns c = objects_are_made
