use Rattle.case_keep.proofs.storing.step_group.Given as goal

abbrev pub ghost-step_first : goal.ghost-step_first
ghost-step_first g a = g.past
