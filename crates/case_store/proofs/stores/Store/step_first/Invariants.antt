use Rattle.case_store.proofs.stores.Store.step_first.Given as goal

abbrev pub ghost-make_group : goal.ghost-make_group
ghost-make_group g a = g.past
