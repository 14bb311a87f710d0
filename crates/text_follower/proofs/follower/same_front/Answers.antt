use Rattle.std.proofs.Common.{arith}
use Rattle.text_follower.proofs.Fronts.{at_end}
use Rattle.text_follower.proofs.follower.same_front.Goals as goal

pub returns-else-same-rest-clause-same : goal.returns-else-same-rest-clause-same
returns-else-same-rest-clause-same c =
    at_end c.loop-same.same c.args.piece.now c.args.rest.now (omega (arith, c.if-same-rest.false)) c.loop-same.invariant.same
