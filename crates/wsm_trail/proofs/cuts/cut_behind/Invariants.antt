use Rattle.wsm_trail.proofs.Common.{◌++◌, ◌≡◌, ◌≤◌, cut_entries, drop, take, vec_capacity, vec_len}
use Rattle.wsm_trail.proofs.cuts.cut_behind.Given as goal

abbrev pub invariant-loop-i : goal.invariant-loop-i
invariant-loop-i l = record {
  behind : l.kept ≤ l.i;
  len : vec_len l.entries ≡ vec_len l.initial.entries;
  capacity : vec_capacity l.entries ≡ vec_capacity l.initial.entries;
  entries : take l.kept l.entries.items ++ cut_entries l.body (drop l.i l.entries.items) ≡ take l.place l.initial.entries.items ++ cut_entries l.body (drop l.place l.initial.entries.items);
}
