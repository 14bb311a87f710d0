use Rattle.wsm_adapt.proofs.Common.{ℕ, ◌≡◌, ◌≤◌, AllAmong, AllKnown, drop, end_node, List, Mark, Option, ReadsMore, SpendsAmong}
use Rattle.wsm_adapt.proofs.border.read_ends.Given as goal

abbrev pub invariant-loop-end : goal.invariant-loop-end
invariant-loop-end g l = record {
  more : ReadsMore (g.M.MarkReads.kept l.fn.marks) l.fn.known l.known;
  sources : (last : List (ℕ × Option Mark)) → ReadsMore (g.M.MarkReads.kept l.fn.marks) l.known last → AllKnown last end_node (drop l.end-index l.ends) → AllKnown last end_node l.ends;
  same : g.M.MarkReads.kept l.marks ≡ g.M.MarkReads.kept l.fn.marks;
  rises : g.M.MarkReads.reads l.fn.marks ≤ g.M.MarkReads.reads l.marks;
  spent : SpendsAmong (λ all. AllAmong all end_node l.ends) (g.M.MarkReads.reads l.fn.marks) l.fn.known (g.M.MarkReads.reads l.marks) l.known;
}
