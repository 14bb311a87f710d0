use Rattle.case_audit.proofs.Common.{[], ◌+◌, ◌≡◌, asked_in, map, replicate}
use Rattle.case_audit.proofs.turns.Turns.none.Given as goal

abbrev pub invariant-loop-made : goal.invariant-loop-made
invariant-loop-made l = map (λ q. asked_in q.items) l.by_actor.items ≡ replicate (l._made + 1) []
