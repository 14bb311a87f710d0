use Rattle.case_store.proofs.Common.{◌++◌, ◌≡◌, drop, fresh_kinds}
use Rattle.case_store.proofs.held.fresh_kinds.Given as goal

abbrev pub invariant-loop-type_no : goal.invariant-loop-type_no
invariant-loop-type_no l = l.kinds.items ++ fresh_kinds l.type_no (drop l.type_no l.counts) ≡ fresh_kinds 0 l.counts
