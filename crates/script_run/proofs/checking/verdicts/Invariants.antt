use Rattle.script_run.proofs.Common.{◌≡◌, checking_of, drop, fold, judged_phase, verdicts}
use Rattle.script_run.proofs.checking.verdicts.Given as goal

abbrev pub invariant-loop-lines : goal.invariant-loop-lines
invariant-loop-lines l = (fold judged_phase (checking_of l.judging) (drop l.lines-index l.lines-items)).verdicts ≡ verdicts l.file
