use Rattle.wsm_settle.proofs.{Common.{◌==◌, low_of}, Handing.{handed-last, handed-next, handed-rest}}
use Rattle.wsm_settle.proofs.pending.hand_to_ends.Goals as goal

pub loop-end-preserved : goal.loop-end-preserved
loop-end-preserved c = (
  (λ last rest.
      c.loop-end.invariant.0 last
      (handed-next c.args.rank.now (low_of c.args.from) (λ k o. o.node == k) c.args.ends.now c.loop-end.end-index _ c.loop-end.pending.keys c.hand_to_other.new.pending.keys last c.loop-end-test.true c.in_ok-hand_to_other.ensures.handed rest)),
  handed-last c.args.rank.now (low_of c.args.from) _ c.loop-end.pending.keys c.hand_to_other.new.pending.keys c.in_ok-hand_to_other.ensures.handed,
)

pub returns : goal.returns
returns c = record { handed = c.loop-end.invariant.0 c.loop-end.pending.keys (handed-rest c.args.rank.now (low_of c.args.from) (λ k o. o.node == k) c.args.ends.now c.loop-end.end-index c.loop-end-test.false c.loop-end.pending.keys) }
