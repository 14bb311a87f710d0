use Rattle.case_audit.proofs.Common.{◌+◌, ◌≤◌, AllRows, asked_in, cases, InPhase, IsModest, IsSteady, length, queues_of}
use Rattle.case_audit.proofs.cases.judge_phase.Given as goal

abbrev pub invariant-loop-judged : goal.invariant-loop-judged
invariant-loop-judged l = record {
  judged : InPhase (cases l.file) l.fn.case l.fn.report l.case l.report (queues_of l.turns) (asked_in l.calls) l._judged;
  modest : AllRows (AllRows IsModest) (queues_of l.turns);
  steady : IsSteady l.case;
  longer : length l.case.journal ≤ length l.fn.case.journal + l._judged;
}
