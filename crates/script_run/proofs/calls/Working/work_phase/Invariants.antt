use Rattle.script_run.proofs.Common.{◌+◌, ◌≡◌, ◌≤◌, drop, oldest, phase_effort, phase_worked, run_of}
use Rattle.script_run.proofs.calls.Working.work_phase.Given as goal

abbrev pub invariant-loop-line : goal.invariant-loop-line
invariant-loop-line l = record {
  run : phase_worked l.script.file.now (run_of l.self) (drop l.line-index l.lines) ≡ phase_worked l.script.file.now (run_of l.initial.self) l.lines;
  age : oldest l.self.cases.items + phase_effort (drop l.line-index l.lines) ≤ oldest l.initial.self.cases.items + phase_effort l.lines;
}
