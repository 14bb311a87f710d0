use Rattle.adept_server.proofs.Common.{◌+◌, ◌-◌, ◌≡◌, ◌≤◌, AreFirstsOf, AreVecsOf, length, row_views, take, vec_capacity, vec_len}
use Rattle.std.specs.List.{sum}
use Rattle.adept_server.proofs.opening.open_all_cases.Given as goal

abbrev pub invariant-loop-type_no : goal.invariant-loop-type_no
invariant-loop-type_no l = record {
  of : AreVecsOf l.cells.items l.firsts.items;
  are : AreFirstsOf (take l.type_no l.counts) (row_views l.firsts.items);
  label : l.label ≡ length l.counts + sum (take l.type_no l.counts);
  room_for_cells : vec_len l.cells + (length l.counts - l.type_no) ≤ vec_capacity l.cells;
  room_for_firsts : vec_len l.firsts + (length l.counts - l.type_no) ≤ vec_capacity l.firsts;
}
