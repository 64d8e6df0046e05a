use Rattle.lakhdzeva.proofs.lakhdzeva_core_format_signed.Goals as goal

pub returns : goal.returns
returns c = c.deliver_both.ensures _ c.signed_form.ensures
