use Rattle.lakhdzeva.proofs.lakhdzeva_core_verify.Goals as goal

pub returns : goal.returns
returns c = c.deliver_payload.ensures _ c.verified_object.ensures
