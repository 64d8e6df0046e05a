use Rattle.lakhdzeva.proofs.lakhdzeva_core_judge_keys.Goals as goal

pub returns : goal.returns
returns c = c.deliver.ensures _ c.judged_members.ensures
