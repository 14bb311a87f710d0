use Rattle.std.specs.Prelude.{map}
use Rattle.case_store.proofs.Common.{payload_of}
use Rattle.case_store.proofs.stores.Store.make_group.Given as goal

abbrev pub ghost-append_group : goal.ghost-append_group
ghost-append_group g a = map payload_of g.past.records
