use Rattle.case_audit.proofs.Common.{◌≡◌, asked_in, drop, fold, kind_put, numbers}
use Rattle.case_audit.proofs.owed.add_kind_lines.Given as goal

abbrev pub invariant-loop-call : goal.invariant-loop-call
invariant-loop-call l = fold (kind_put l.phase) (numbers l.owed.items) (asked_in (drop l.call-index l.lines)) ≡ fold (kind_put l.phase) (numbers l.fn.owed.items) (asked_in l.lines)
