use Rattle.lakhdzeva.proofs.lakhdzeva_core_format_encrypted.Goals as goal

pub returns : goal.returns
returns c = c.deliver_both.ensures _ c.encrypted_form.ensures
