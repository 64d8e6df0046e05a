use Rattle.tools.proofs.Places.{read_alike}
use Rattle.tools.proofs.object_places.read_encrypted.Goals as goal

pub returns : goal.returns
returns c =
    read_alike c.in_ok-protected_at.ensures c.read_header.ensures c.in_ok-member_refusal.ensures c.in_ok-member_refusal-2.ensures
    c.in_ok-member_refusal-3.ensures c.in_ok-member_refusal-4.ensures
