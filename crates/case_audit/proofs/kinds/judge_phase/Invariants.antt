use Rattle.case_audit.proofs.Common.{AllRows, asked_in, InPhase, IsModest, kinds, queues_of}
use Rattle.case_audit.proofs.kinds.judge_phase.Given as goal

abbrev pub invariant-loop-judged : goal.invariant-loop-judged
invariant-loop-judged l = record {
  judged : InPhase (kinds l.file) l.fn.kind l.fn.report l.kind l.report (queues_of l.turns) (asked_in l.calls) l._judged;
  modest : AllRows (AllRows IsModest) (queues_of l.turns);
}
