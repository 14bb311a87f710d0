use Rattle.case_audit.proofs.Common.{◌≡◌, asked_of, is_among, numbers, put_where, take, with_line}
use Rattle.case_audit.proofs.owed.add_to_each.Given as goal

abbrev pub invariant-loop-place : goal.invariant-loop-place
invariant-loop-place l = numbers l.owed.items ≡ put_where (is_among l.type_no l.many) (with_line l.phase (asked_of l.call)) (take l.place l.cases) (numbers l.fn.owed.items)
