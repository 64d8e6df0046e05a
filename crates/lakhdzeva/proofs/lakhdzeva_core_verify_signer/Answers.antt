use Rattle.lakhdzeva.proofs.lakhdzeva_core_verify_signer.Goals as goal

pub returns : goal.returns
returns c = c.deliver_signed.ensures _ c.signed_object.ensures
