use Rattle.lakhdzeva.proofs.lakhdzeva_core_verify_detached.Goals as goal

pub returns : goal.returns
returns c = c.told.ensures _ c.verify_with_payload.ensures
