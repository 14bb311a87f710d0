use Rattle.wsm_settle.proofs.{Common.{◌≡◌, ◌≤◌, AllWithin, length, Spends, Walks}, Visits.left_of}
use Rattle.wsm_settle.proofs.walks.walk.Given as goal

abbrev pub invariant-loop-place : goal.invariant-loop-place
invariant-loop-place g l = record {
  walked : Walks l.flat.cards l.rank (g.M.MarkReads.kept l.fn.marks) l.fn.pending.keys l.fn.changes l.pending.keys l.changes;
  spent : Spends l.flat.cards l.rank (g.M.MarkReads.reads l.fn.marks) l.fn.pending.keys (g.M.MarkReads.reads l.marks) l.pending.keys;
  within : AllWithin (length l.rank) l.pending.keys;
  same : g.M.MarkReads.kept l.marks ≡ g.M.MarkReads.kept l.fn.marks;
  rises : g.M.MarkReads.reads l.fn.marks ≤ g.M.MarkReads.reads l.marks;
}

abbrev pub decreases-loop-place : goal.decreases-loop-place
decreases-loop-place g l = left_of (length l.rank) l.pending.keys
