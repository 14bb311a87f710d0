use Rattle.script_run.proofs.Common.{◌≡◌, checking_of, drop, judged_phase}
use Rattle.script_run.proofs.checking.Judging.judge_phase.Given as goal

abbrev pub invariant-loop-line : goal.invariant-loop-line
invariant-loop-line l = judged_phase (checking_of l.self) (drop l.line-index l.lines) ≡ judged_phase (checking_of l.initial.self) l.lines
