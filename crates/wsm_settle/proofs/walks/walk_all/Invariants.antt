use Rattle.wsm_settle.proofs.{Common.◌≡◌, AllPlaces.LeftFrom}
use Rattle.wsm_settle.proofs.walks.walk_all.Given as goal

abbrev pub invariant-loop-place : goal.invariant-loop-place
invariant-loop-place g l = record {
  left : LeftFrom l.flat.cards l.rank (g.M.MarkReads.kept l.fn.marks) l.fn.changes l.place l.changes;
  same : g.M.MarkReads.kept l.marks ≡ g.M.MarkReads.kept l.fn.marks;
}
