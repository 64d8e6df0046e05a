use Rattle.lakhdzeva.proofs.lakhdzeva_core_thumbprints.Goals as goal

pub returns : goal.returns
returns c = c.deliver.ensures _ c.thumbprint_lines.ensures
