use Rattle.wsm_adapt.proofs.Common.{card_at, handed-next, handed-rest, is_led}
use Rattle.wsm_adapt.proofs.begins.hand_on_all.Goals as goal

pub loop-node-preserved : goal.loop-node-preserved
loop-node-preserved c =
    λ last rest.
    c.loop-node.invariant last
    (handed-next c.args.rank.now 0 (λ k m. is_led (card_at m c.args.flat.now.cards) k) c.args.nodes.now c.loop-node.node-index 0 c.loop-node.pending.keys c.hand_on_from.new.pending.keys last c.loop-node-test.true
    c.in_ok-hand_on_from.ensures.handed rest)

pub returns : goal.returns
returns c = record {
  handed = c.loop-node.invariant c.loop-node.pending.keys (handed-rest c.args.rank.now 0 (λ k m. is_led (card_at m c.args.flat.now.cards) k) c.args.nodes.now c.loop-node.node-index c.loop-node-test.false c.loop-node.pending.keys);
}
