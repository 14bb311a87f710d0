use Rattle.std.proofs.Common.{◌≡◌, drop, filter}
use Rattle.wsm_touch.specs.TouchedNodes.{is_touched, nodes_in, put_all}
use Rattle.wsm_touch.proofs.changed_nodes.put_touched.Given as goal

abbrev pub invariant-loop-place : goal.invariant-loop-place
invariant-loop-place l =
    put_all (filter (is_touched l.old l.new) (nodes_in (drop l.place l.old.cards))) l.nodes ≡ put_all (filter (is_touched l.old l.new) (nodes_in l.old.cards)) l.fn.nodes
