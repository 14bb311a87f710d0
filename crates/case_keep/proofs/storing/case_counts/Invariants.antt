use Rattle.case_keep.proofs.Common.{◌++◌, ◌≡◌, case_counts, counts_from, drop}
use Rattle.case_keep.proofs.storing.case_counts.Given as goal

abbrev pub invariant-loop-type_no : goal.invariant-loop-type_no
invariant-loop-type_no l = l.counts.items ++ counts_from l.type_no (drop l.type_no l.file.types) l.file.cases ≡ case_counts l.file
