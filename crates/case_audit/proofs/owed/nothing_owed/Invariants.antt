use Rattle.case_audit.proofs.Common.{[], ◌≡◌, numbers, replicate}
use Rattle.case_audit.proofs.owed.nothing_owed.Given as goal

abbrev pub invariant-loop-made : goal.invariant-loop-made
invariant-loop-made l = numbers l.owed.items ≡ replicate l._made []
