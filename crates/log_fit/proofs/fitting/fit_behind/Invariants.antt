use Rattle.log_fit.proofs.{Common.{[], ◌+◌, ◌≤◌, length, told_from}, Telling.IsReached}
use Rattle.log_fit.proofs.fitting.fit_behind.Given as goal

abbrev pub invariant-loop-row : goal.invariant-loop-row
invariant-loop-row l = record {
  reached : IsReached l.version l.nodes l.elements (told_from l.nodes l.elements 2 [] l.initial.reader) l.index l.table.names l.table.rows.items l.reader;
  left : l.index + length l.reader ≤ 33554435;
  few : length l.table.names ≤ 4096;
}

abbrev pub decreases-loop-row : goal.decreases-loop-row
decreases-loop-row l = length l.reader
