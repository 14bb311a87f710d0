use Rattle.wsm_adapt.proofs.Common.{◌+◌, ◌≡◌, ◌≤◌, drop, least, lesser, map, misfit_in}
use Rattle.wsm_adapt.proofs.misfits.touched_misfit.Given as goal

abbrev pub invariant-loop-node : goal.invariant-loop-node
invariant-loop-node g l = record {
  least : lesser l.first (least (map (misfit_in l.old l.new l.known (g.T.TrailReads.kept l.fn.trail).entries) (drop l.node-index l.nodes)))
      ≡ least (map (misfit_in l.old l.new l.known (g.T.TrailReads.kept l.fn.trail).entries) l.nodes);
  same : g.T.TrailReads.kept l.trail ≡ g.T.TrailReads.kept l.fn.trail;
  rises : g.T.TrailReads.reads l.fn.trail ≤ g.T.TrailReads.reads l.trail;
  count : g.T.TrailReads.reads l.trail ≤ g.T.TrailReads.reads l.fn.trail + l.node-index;
}
