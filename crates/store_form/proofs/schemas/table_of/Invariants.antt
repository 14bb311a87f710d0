use Rattle.store_form.proofs.Common.{◌++◌, ◌≡◌, drop}
use Rattle.store_form.proofs.schemas.table_of.Given as goal

abbrev pub invariant-loop-row : goal.invariant-loop-row
invariant-loop-row g l = l.table ++ drop l.row-index l.rows ≡ l.rows
