use Rattle.wsm_adapt.proofs.Common.{◌≡◌, drop, gone_of, without}
use Rattle.wsm_adapt.proofs.adapting.take_away.Given as goal

abbrev pub invariant-loop-node : goal.invariant-loop-node
invariant-loop-node l = without (gone_of l.flat.cards (drop l.node-index l.nodes)) l.marks ≡ without (gone_of l.flat.cards l.nodes) l.fn.marks
