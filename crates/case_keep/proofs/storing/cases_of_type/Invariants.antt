use Rattle.case_keep.proofs.Common.{◌≡◌, ◌≤◌, cases_of_type, take}
use Rattle.case_keep.proofs.storing.cases_of_type.Given as goal

abbrev pub invariant-loop-case : goal.invariant-loop-case
invariant-loop-case l = (l.count ≡ cases_of_type l.type_no (take l.case-index l.cases)) × (l.count ≤ l.case-index)
