use Rattle.lakhdzeva.proofs.lakhdzeva_core_encrypt.Goals as goal

pub returns : goal.returns
returns c = c.deliver_both.ensures _ c.encrypted_texts.ensures
