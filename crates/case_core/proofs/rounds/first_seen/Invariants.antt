use Rattle.case_core.proofs.Common.{◌+◌, ◌≡◌, ◌≤◌, drop, first_seen}
use Rattle.case_core.proofs.rounds.first_seen.Given as goal

abbrev pub invariant-loop-node : goal.invariant-loop-node
invariant-loop-node g l = record {
  first : first_seen (g.M.MarkReads.kept l.fn.marks) (drop l.node-index l.nodes) l.first ≡ first_seen (g.M.MarkReads.kept l.fn.marks) l.nodes l.position;
  same : g.M.MarkReads.kept l.marks ≡ g.M.MarkReads.kept l.fn.marks;
  rises : g.M.MarkReads.reads l.fn.marks ≤ g.M.MarkReads.reads l.marks;
  count : g.M.MarkReads.reads l.marks ≤ g.M.MarkReads.reads l.fn.marks + l.node-index;
}
