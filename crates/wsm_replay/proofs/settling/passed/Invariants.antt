use Rattle.wsm_replay.proofs.Common.{[], drop, pass, SameRows}
use Rattle.wsm_replay.proofs.settling.passed.Given as goal

abbrev pub invariant-loop-node : goal.invariant-loop-node
invariant-loop-node l = SameRows (pass l.flat.cards l.old (drop l.node-index l.nodes) l.done) (pass l.flat.cards l.old l.nodes [])
