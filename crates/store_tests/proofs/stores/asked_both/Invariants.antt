use Rattle.std.proofs.Common.{[], ◌∷◌}
use Rattle.store_tests.proofs.stores.asked_both.Given as goal

abbrev pub ghost-step_all_within : goal.ghost-step_all_within
ghost-step_all_within a = record { counts = 1 ∷ []; records = [] }
