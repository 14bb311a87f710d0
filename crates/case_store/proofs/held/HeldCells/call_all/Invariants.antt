use Rattle.case_store.proofs.{Common.drop, Calling.Made}
use Rattle.case_store.proofs.held.HeldCells.call_all.Given as goal

abbrev pub invariant-loop-call : goal.invariant-loop-call
invariant-loop-call l = Made l.initial.self l.self l.calls (drop l.call-index l.calls) l.replies.items
