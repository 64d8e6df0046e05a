use Rattle.lakhdzeva.proofs.lakhdzeva_core_verify_all.Goals as goal

pub returns : goal.returns
returns c = c.deliver_payload.ensures _ c.object_of_signers.ensures
