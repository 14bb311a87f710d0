use Rattle.wsm_settle.proofs.{Common.{◌==◌, low_of}, Handing.{handed-next, handed-rest}}
use Rattle.wsm_settle.proofs.pending.hand_to.Goals as goal

pub loop-node-preserved : goal.loop-node-preserved
loop-node-preserved c =
    λ last rest.
    c.loop-node.invariant last
    (handed-next c.args.rank.now (low_of c.args.from) (λ k n. n == k) c.args.nodes.now c.loop-node.node-index 0 c.loop-node.pending.keys c.hand_to_node.new.pending.keys last c.loop-node-test.true c.in_ok-hand_to_node.ensures.handed rest)

pub returns : goal.returns
returns c = record { handed = c.loop-node.invariant c.loop-node.pending.keys (handed-rest c.args.rank.now (low_of c.args.from) (λ k n. n == k) c.args.nodes.now c.loop-node.node-index c.loop-node-test.false c.loop-node.pending.keys) }
