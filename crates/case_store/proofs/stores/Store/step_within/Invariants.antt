use Rattle.std.specs.Prelude.{map}
use Rattle.case_store.proofs.Common.{payload_of}
use Rattle.case_store.proofs.stores.Store.step_within.Given as goal

abbrev pub ghost-append : goal.ghost-append
ghost-append g a = map payload_of g.past.records
