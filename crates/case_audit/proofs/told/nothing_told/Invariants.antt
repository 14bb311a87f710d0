use Rattle.case_audit.proofs.Common.{[], ◌+◌, ◌≡◌, deques_of, replicate}
use Rattle.case_audit.proofs.told.nothing_told.Given as goal

abbrev pub invariant-loop-made : goal.invariant-loop-made
invariant-loop-made l = deques_of l.told.items ≡ replicate (l._made + 1) []
