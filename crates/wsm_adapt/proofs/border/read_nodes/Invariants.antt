use Rattle.wsm_adapt.proofs.Common.{ℕ, ◌≡◌, ◌≤◌, AllAmong, AllKnown, drop, List, Mark, Option, own, ReadsMore, SpendsAmong}
use Rattle.wsm_adapt.proofs.border.read_nodes.Given as goal

abbrev pub invariant-loop-node : goal.invariant-loop-node
invariant-loop-node g l = record {
  more : ReadsMore (g.M.MarkReads.kept l.fn.marks) l.fn.known l.known;
  sources : (last : List (ℕ × Option Mark)) → ReadsMore (g.M.MarkReads.kept l.fn.marks) l.known last → AllKnown last own (drop l.node-index l.nodes) → AllKnown last own l.nodes;
  same : g.M.MarkReads.kept l.marks ≡ g.M.MarkReads.kept l.fn.marks;
  rises : g.M.MarkReads.reads l.fn.marks ≤ g.M.MarkReads.reads l.marks;
  spent : SpendsAmong (λ all. AllAmong all own l.nodes) (g.M.MarkReads.reads l.fn.marks) l.fn.known (g.M.MarkReads.reads l.marks) l.known;
}
