use Rattle.wsm_settle.proofs.{Common.{Card, Handed, opens, subst}, Handing.{handed-next, handed-rest}}
use Rattle.wsm_settle.proofs.openings.hand_to_openings.Goals as goal

pub loop-card-preserved : goal.loop-card-preserved
loop-card-preserved c =
    λ last rest.
    c.loop-card.invariant last
    (handed-next c.args.rank.now 0 opens c.args.cards.now c.loop-card.card-index c.card-item.result c.loop-card.pending.keys c.hand_to_opening.new.pending.keys last c.loop-card-test.true
    (subst (λ (d : Card). Handed c.args.rank.now (λ k. opens k d) 0 c.loop-card.pending.keys c.hand_to_opening.new.pending.keys) c.card-item.is c.in_ok-hand_to_opening.ensures.handed) rest)

pub returns : goal.returns
returns c = record {
  handed = c.loop-card.invariant c.loop-card.pending.keys (handed-rest c.args.rank.now 0 opens c.args.cards.now c.loop-card.card-index c.loop-card-test.false c.loop-card.pending.keys);
}
