use Rattle.adept_server.proofs.Common.{◌+◌, ◌-◌, ◌≤◌, HaveRoomFor, length, take, vec_capacity, vec_len}
use Rattle.adept_server.proofs.all_rows.empty_rows.Given as goal

abbrev pub invariant-loop-row : goal.invariant-loop-row
invariant-loop-row g l = record {
  room : HaveRoomFor (take l.row-index l.rows) l.empty.items;
  left : vec_len l.empty + (length l.rows - l.row-index) ≤ vec_capacity l.empty;
}
