use Rattle.case_audit.proofs.Common.{◌≡◌, calls_number, given, numbers, range_with_len, script_of, take}
use Rattle.case_audit.proofs.owed.owed_kinds.Given as goal

abbrev pub invariant-loop-phase : goal.invariant-loop-phase
invariant-loop-phase l = numbers l.owed.items ≡ given calls_number (range_with_len 0 l.types) (script_of (take l.phase l.phases))
