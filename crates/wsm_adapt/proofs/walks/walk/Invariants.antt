use Rattle.wsm_adapt.proofs.{Common.{◌≡◌, ◌≤◌, AllWithin, GoesOn, KeepsTold, left_of, length, StaysInside}, Visiting.Spent}
use Rattle.wsm_adapt.proofs.walks.walk.Given as goal

abbrev pub invariant-loop-place : goal.invariant-loop-place
invariant-loop-place g l = record {
  walked : GoesOn l.flat.cards l.rank (g.M.MarkReads.kept l.fn.marks) l.fn.pending.keys l.fn.found l.pending.keys l.found;
  inside : StaysInside l.flat.cards l.rank l.fn.pending.keys l.fn.found l.pending.keys l.found;
  told : KeepsTold l.fn.found l.found;
  spent : Spent l.flat.cards l.rank (g.M.MarkReads.reads l.fn.marks) l.fn.pending.keys l.fn.found (g.M.MarkReads.reads l.marks) l.found;
  within : AllWithin (length l.rank) l.pending.keys;
  same : g.M.MarkReads.kept l.marks ≡ g.M.MarkReads.kept l.fn.marks;
  rises : g.M.MarkReads.reads l.fn.marks ≤ g.M.MarkReads.reads l.marks;
}

abbrev pub decreases-loop-place : goal.decreases-loop-place
decreases-loop-place g l = left_of (length l.rank) l.pending.keys
