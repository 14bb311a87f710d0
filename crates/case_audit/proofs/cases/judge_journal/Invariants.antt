use Rattle.case_audit.proofs.Common.{◌+◌, ◌≤◌, cases, drop, how_many, InPhases, IsSteady, length, owed_of}
use Rattle.case_audit.proofs.cases.judge_journal.Given as goal

abbrev pub invariant-loop-phase : goal.invariant-loop-phase
invariant-loop-phase l = record {
  judged : InPhases (cases l.file) l.initial.case l.initial.report l.case l.report (owed_of l.owed) l.phase-index;
  steady : IsSteady l.case;
  few : length l.case.journal + how_many (drop l.phase-index (owed_of l.owed)) ≤ 60000;
}
