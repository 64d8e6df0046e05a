use Rattle.lakhdzeva.proofs.lakhdzeva_core_decrypt.Goals as goal

pub returns : goal.returns
returns c = c.deliver.ensures _ c.plaintext_of.ensures
