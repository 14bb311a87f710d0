use Rattle.case_audit.proofs.Common.{◌+◌, ◌≡◌, drop, named_from}
use Rattle.case_audit.proofs.callers.actor_in.Given as goal

abbrev pub invariant-loop-actor : goal.invariant-loop-actor
invariant-loop-actor l = (l.number ≡ l.actor-index) × (named_from l.text (l.number + 1) (drop l.actor-index l.actors) ≡ named_from l.text 1 l.actors)
