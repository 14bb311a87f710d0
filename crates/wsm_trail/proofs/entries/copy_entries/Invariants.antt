use Rattle.wsm_trail.proofs.Common.{◌≡◌, take}
use Rattle.wsm_trail.proofs.entries.copy_entries.Given as goal

abbrev pub invariant-loop-row : goal.invariant-loop-row
invariant-loop-row l = l.copies.items ≡ take l.row-index l.entries
