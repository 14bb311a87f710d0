use Rattle.wsm_block.proofs.{Common.{◌++◌, ◌+◌, ◌-◌, ◌∙◌, ap, length, onto_seen, take}, FrontOrders.onto-earlier}
use Rattle.wsm_block.proofs.growth.onto.Goals as goal

pub loop-i-preserved : goal.loop-i-preserved
loop-i-preserved c =
    ap (λ es. es ++ onto_seen (take (length c.args.front.now - (c.loop-i.i + 1)) c.args.front.now) c.args.edges.now) c.in_ok-push.ensures.items
    ∙ onto-earlier c.args.front.now c.args.edges.now c.loop-i.all.items c.loop-i.i (0, 0) c.loop-i-test.true
    ∙ c.loop-i.invariant
