use Rattle.script_run.proofs.Common.{◌+◌, ◌≡◌, ◌≤◌, drop, fold, oldest, phase_effort, phase_worked, run_of, serial, sum_by}
use Rattle.script_run.proofs.serial.serial_run.Given as goal

abbrev pub invariant-loop-lines : goal.invariant-loop-lines
invariant-loop-lines l = record {
  run : fold (phase_worked l.file) (run_of l.run) (drop l.lines-index l.lines-items) ≡ serial l.file;
  age : oldest l.run.cases.items + sum_by phase_effort (drop l.lines-index l.lines-items) ≤ 50000000;
}
