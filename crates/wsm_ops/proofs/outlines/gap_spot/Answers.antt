use Rattle.wsm_ops.proofs.Common.{at_gap, IsSpot, subst, sym}
use Rattle.wsm_ops.proofs.outlines.gap_spot.Goals as goal

pub returns-in-After : goal.returns-in-After
returns-in-After c = subst (λ g. IsSpot (at_gap g) c.args.runs.now c.node_spot.result) (sym c.in-After.is) c.node_spot.ensures
