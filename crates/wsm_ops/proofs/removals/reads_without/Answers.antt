use Rattle.wsm_ops.proofs.{Common.first_two, Rising.Ascends-filter}
use Rattle.wsm_ops.proofs.removals.reads_without.Goals as goal

pub table_of-requires : goal.table_of-requires
table_of-requires c =
    rw (c.deref.ensures.value, c.in_ok-other_reads.ensures) (Ascends-filter first_two _ c.as_slice.result.now c.as_slice.ensures.ascends)
