use Rattle.std.proofs.Common.{◌≡◌, ◌≤◌, ◌++◌, drop, fold}
use Rattle.std.specs.List.{sum_by}
use Rattle.file_model.specs.Sizes.{phase_effort}
use Rattle.store_calls.specs.Calls.{ends_from, phase_ends, told_file, told_of, told_phase}
use Rattle.store_calls.proofs.telling.calls.Given as goal

abbrev pub invariant-loop-lines : goal.invariant-loop-lines
invariant-loop-lines l = record {
  told : fold (told_phase l.file) (told_of l.telling) (drop l.lines-index l.lines-items) ≡ told_file l.file;
  ends : l.ends.items ++ ends_from l.file (told_of l.telling) (drop l.lines-index l.lines-items) ≡ phase_ends l.file;
  effort : sum_by phase_effort (drop l.lines-index l.lines-items) ≤ 50000000;
}
