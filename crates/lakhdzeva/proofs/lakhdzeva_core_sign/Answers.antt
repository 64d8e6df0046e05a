use Rattle.lakhdzeva.proofs.lakhdzeva_core_sign.Goals as goal

pub returns : goal.returns
returns c = c.deliver.ensures _ c.signed_text.ensures
