use Rattle.std.proofs.Common.{[], ◌∷◌}
use Rattle.store_tests.proofs.stores.asked.Given as goal

abbrev pub ghost-step : goal.ghost-step
ghost-step a = record { counts = 1 ∷ []; records = [] }
