use Rattle.wsm_adapt.proofs.Common.{◌≡◌, drop, early_in, least, lesser, map}
use Rattle.wsm_adapt.proofs.misfits.early_misfit.Given as goal

abbrev pub invariant-loop-node : goal.invariant-loop-node
invariant-loop-node l = lesser l.first (least (map (early_in l.new l.known) (drop l.node-index l.nodes))) ≡ least (map (early_in l.new l.known) l.nodes)
