use Rattle.case_store.proofs.Common.{◌++◌, ◌≡◌, drop, fresh_cases}
use Rattle.case_store.proofs.held.fresh_cases.Given as goal

abbrev pub invariant-loop-type_no : goal.invariant-loop-type_no
invariant-loop-type_no l = l.cases.items ++ fresh_cases l.type_no (drop l.type_no l.counts) ≡ fresh_cases 0 l.counts
