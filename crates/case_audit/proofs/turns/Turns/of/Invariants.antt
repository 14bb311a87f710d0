use Rattle.case_audit.proofs.Common.{◌≡◌, all_turns, asked_in, drop, fold, queues_of, with_turn}
use Rattle.case_audit.proofs.turns.Turns.of.Given as goal

abbrev pub invariant-loop-call : goal.invariant-loop-call
invariant-loop-call l = fold with_turn (queues_of l.turns) (asked_in (drop l.call-index l.calls)) ≡ all_turns l.actors (asked_in l.calls)
