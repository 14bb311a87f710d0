use Rattle.wsm_trail.proofs.Common.{◌++◌, ◌≡◌, drop, values_at}
use Rattle.wsm_trail.proofs.trails.Trail.values.Given as goal

abbrev pub invariant-loop-row : goal.invariant-loop-row
invariant-loop-row l = l.values.items ++ values_at l.self.trail.entries (drop l.row-index l.row-items) ≡ values_at l.self.trail.entries l.row-items
