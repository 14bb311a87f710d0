use Rattle.case_keep.proofs.storing.step_calls_of.Given as goal

abbrev pub ghost-step_groups : goal.ghost-step_groups
ghost-step_groups g a = g.counts
