use Rattle.wsm_settle.proofs.Common.{[], ◌≡◌, drop, told_rows}
use Rattle.wsm_settle.proofs.timing.told_by.Given as goal

abbrev pub invariant-loop-position : goal.invariant-loop-position
invariant-loop-position l = told_rows (drop l.position-index l.entries) l.changes ≡ told_rows l.entries []
