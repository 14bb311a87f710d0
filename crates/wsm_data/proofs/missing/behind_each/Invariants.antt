use Rattle.wsm_data.proofs.Common.{take, Tells}
use Rattle.wsm_data.proofs.missing.behind_each.Given as goal

abbrev pub invariant-loop-node : goal.invariant-loop-node
invariant-loop-node l = Tells l.schema l.table (take l.node-index l.node-items)
