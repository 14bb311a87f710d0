use Rattle.wsm_ops.proofs.{Common.both, Rising.Ascends-filter}
use Rattle.wsm_ops.proofs.removals.syncs_without.Goals as goal

pub table_of-requires : goal.table_of-requires
table_of-requires c =
    rw (c.deref.ensures.value, c.in_ok-other_edges.ensures) (Ascends-filter both _ c.as_slice.result.now c.as_slice.ensures.ascends)
