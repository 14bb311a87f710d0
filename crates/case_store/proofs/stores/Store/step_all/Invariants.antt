use Rattle.case_store.proofs.stores.Store.step_all.Given as goal

abbrev pub ghost-step_all_within : goal.ghost-step_all_within
ghost-step_all_within g a = g.past
