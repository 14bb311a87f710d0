use Rattle.wsm_ops.proofs.Common.{◌++◌, ◌≡◌, drop}
use Rattle.wsm_ops.proofs.removals.table_of.Given as goal

abbrev pub invariant-loop-row : goal.invariant-loop-row
invariant-loop-row g l = l.table ++ drop l.row-index l.rows ≡ l.rows
