use Rattle.wsm_settle.proofs.Common.{[], ◌≡◌, drop, freed_rows}
use Rattle.wsm_settle.proofs.repeats.all_freed.Given as goal

abbrev pub invariant-loop-node : goal.invariant-loop-node
invariant-loop-node l = freed_rows l.end l.position (drop l.node-index l.nodes) l.changes ≡ freed_rows l.end l.position l.nodes []
