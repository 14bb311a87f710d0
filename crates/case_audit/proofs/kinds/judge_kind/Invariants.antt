use Rattle.case_audit.proofs.Common.{InPhases, kinds, owed_of}
use Rattle.case_audit.proofs.kinds.judge_kind.Given as goal

abbrev pub invariant-loop-phase : goal.invariant-loop-phase
invariant-loop-phase l = InPhases (kinds l.file) l.initial.kind l.initial.report l.kind l.report (owed_of l.owed) l.phase-index
