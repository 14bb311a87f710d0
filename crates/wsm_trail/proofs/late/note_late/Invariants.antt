use Rattle.wsm_trail.proofs.Common.{◌≡◌, ◌≤◌, noted_entries, noted_until, take}
use Rattle.wsm_trail.proofs.late.note_late.Given as goal

abbrev pub invariant-loop-i : goal.invariant-loop-i
invariant-loop-i l = record {
  noted : l.noted ≤ l.next;
  until : l.writes.rows ≡ noted_until l.noted l.entries;
  rows : l.writes.rows ≡ noted_entries (take l.i l.entries);
}
