use Rattle.adept_server.proofs.Common.{◌+◌, ◌-◌, ◌≡◌, ◌≤◌, length, lists_of, NoneLowered, vec_capacity, vec_len}
use Rattle.adept_server.proofs.call_flags.raised_rows.Given as goal

abbrev pub invariant-loop-row : goal.invariant-loop-row
invariant-loop-row g l = record {
  made : length l.flags.items ≡ l.row-index;
  raised : NoneLowered (lists_of l.flags.items);
  left : vec_len l.flags + (length l.rows - l.row-index) ≤ vec_capacity l.flags;
}
