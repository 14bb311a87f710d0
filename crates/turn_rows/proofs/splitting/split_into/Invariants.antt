use Rattle.turn_rows.proofs.{Common.{◌++◌, ◌+◌, ◌-◌, ◌≡◌, ◌≤◌, length, vec_capacity, vec_len}, Splits.HaveSplit}
use Rattle.turn_rows.proofs.splitting.split_into.Given as goal

abbrev pub invariant-loop-place : goal.invariant-loop-place
invariant-loop-place g l =
    let m = g.M.Machine in
    record {
      even : length l.firsts ≡ length l.cells;
      new : (qs : _) × (l.into.items ≡ l.fn.into.items ++ qs) × HaveSplit m.after m.reply l.place l.cells l.fn.firsts l.firsts qs;
      capacity : vec_capacity l.into ≡ vec_capacity l.fn.into;
      room : vec_len l.into + (length l.firsts - l.place) ≤ vec_capacity l.into;
    }
