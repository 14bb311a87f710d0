use Rattle.wsm_adapt.proofs.Common.{◌≡◌, begun_rows, drop}
use Rattle.wsm_adapt.proofs.begins.note_known.Given as goal

abbrev pub invariant-loop-node : goal.invariant-loop-node
invariant-loop-node l = begun_rows l.flat.cards l.known (drop l.node-index l.nodes) l.changes ≡ begun_rows l.flat.cards l.known l.nodes l.fn.changes
