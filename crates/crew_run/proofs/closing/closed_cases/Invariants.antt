use Rattle.crew_run.proofs.{Common.{◌+◌, ◌≤◌, closed_case, map, vec_capacity, vec_len}, RowsEmptied.EmptiedTo}
use Rattle.crew_run.proofs.closing.closed_cases.Given as goal

abbrev pub invariant-loop-index : goal.invariant-loop-index
invariant-loop-index l = record {
  emptied : EmptiedTo closed_case l.file (map (λ row. row.items) l.fn.rows.items) l.index (map (λ row. row.items) l.rows.items) l.all.items;
  room : vec_len l.all + l.index ≤ vec_capacity l.all;
}
