use Rattle.wsm_ops.proofs.{Common.arith, Rising.filled-next}
use Rattle.wsm_ops.proofs.removals.table_of.Goals as goal

pub loop-row-preserved : goal.loop-row-preserved
loop-row-preserved g c =
    filled-next g.K.Keys.key_of c.args.rows.now c.loop-row.table c.set.new.self c.loop-row.row-index c.row-item.result c.row-item.is (omega arith) c.requires c.in_ok-set.ensures.ok c.loop-row.invariant
