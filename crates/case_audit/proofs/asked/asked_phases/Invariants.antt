use Rattle.case_audit.proofs.Common.{◌++◌, ◌≡◌, drop, script_by, script_of, told_versions}
use Rattle.case_audit.proofs.asked.asked_phases.Given as goal

abbrev pub invariant-loop-lines : goal.invariant-loop-lines
invariant-loop-lines l = script_of l.phases.items ++ script_by (told_versions l.told) (drop l.lines-index l.lines-items) ≡ script_by (told_versions l.initial.told) l.lines-items
