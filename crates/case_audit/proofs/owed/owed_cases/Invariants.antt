use Rattle.case_audit.proofs.Common.{◌≡◌, calls_decl, given, numbers, script_of, take}
use Rattle.case_audit.proofs.owed.owed_cases.Given as goal

abbrev pub invariant-loop-phase : goal.invariant-loop-phase
invariant-loop-phase l = (numbers l.owed.items ≡ given calls_decl l.file.cases (script_of (take l.phase l.phases))) × (l.script.file.now ≡ l.file)
