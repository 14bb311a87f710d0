use Rattle.case_store.proofs.stores.Store.step.Given as goal

abbrev pub ghost-step_within : goal.ghost-step_within
ghost-step_within g a = g.past
