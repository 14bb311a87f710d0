use Rattle.wsm_trail.proofs.Common.{◌+◌, ◌≡◌, ◌≤◌, drop, length, noted}
use Rattle.wsm_trail.proofs.last_writes.LastWrites.note.Given as goal

abbrev pub invariant-loop-write : goal.invariant-loop-write
invariant-loop-write l = record {
  rows : noted l.position l.self.rows (drop l.write-index l.writes) ≡ noted l.position l.initial.self.rows l.writes;
  room : length l.writes ≤ l.self.spare + l.write-index;
  spare : l.initial.self.spare ≤ l.self.spare + l.write-index;
}
