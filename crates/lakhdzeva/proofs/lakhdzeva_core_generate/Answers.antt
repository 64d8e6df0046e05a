use Rattle.lakhdzeva.proofs.lakhdzeva_core_generate.Goals as goal

pub returns : goal.returns
returns c = c.deliver.ensures _ c.key_text.ensures
