use Rattle.std.proofs.Common.{◌≡◌, ◌≤◌, drop}
use Rattle.file_model.specs.Sizes.{phase_effort}
use Rattle.store_calls.specs.Calls.{told_of, told_phase}
use Rattle.store_calls.proofs.telling.Telling.tell_phase.Given as goal

abbrev pub invariant-loop-line : goal.invariant-loop-line
invariant-loop-line l = record {
  told : told_phase l.file (told_of l.self) (drop l.line-index l.lines) ≡ told_phase l.file (told_of l.initial.self) l.lines;
  effort : phase_effort (drop l.line-index l.lines) ≤ 4000000000;
}
