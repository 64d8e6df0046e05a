use Rattle.lakhdzeva.proofs.lakhdzeva_core_verify_all_detached.Goals as goal

pub returns : goal.returns
returns c = c.told.ensures _ c.verify_all_with_payload.ensures
