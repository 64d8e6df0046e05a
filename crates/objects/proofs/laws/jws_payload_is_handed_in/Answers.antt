use Rattle.objects.proofs.HandedIn.{payload_is_handed_in}
use Rattle.objects.proofs.laws.jws_payload_is_handed_in.Goals as goal

pub returns : goal.returns
returns c = payload_is_handed_in
