use Rattle.wsm_ops.proofs.Common.{◌≡◌, at_gap, drop, joined, list_any}
use Rattle.wsm_ops.proofs.runs.first_spot.Given as goal

-- it is in none of the runs so far
abbrev pub invariant-loop-run : goal.invariant-loop-run
invariant-loop-run l = list_any (at_gap l.gap) (joined (drop l.run l.runs)) ≡ list_any (at_gap l.gap) (joined l.runs)
