use Rattle.case_audit.proofs.Common.{◌≡◌, asked_in, case_put, drop, fold, numbers}
use Rattle.case_audit.proofs.owed.add_case_lines.Given as goal

abbrev pub invariant-loop-call : goal.invariant-loop-call
invariant-loop-call l = fold (case_put l.script.file.now.cases l.phase) (numbers l.owed.items) (asked_in (drop l.call-index l.lines)) ≡ fold (case_put l.script.file.now.cases l.phase) (numbers l.fn.owed.items) (asked_in l.lines)
