use Rattle.wsm_ops.proofs.Common.{◌++◌, ◌≡◌, joined, length}
use Rattle.wsm_ops.proofs.runs.runs_of.Given as goal

-- the pieces so far, and those that are left
abbrev pub invariant-loop-rest : goal.invariant-loop-rest
invariant-loop-rest l = joined l.runs.items ++ l.rest ≡ l.pieces

abbrev pub decreases-loop-rest : goal.decreases-loop-rest
decreases-loop-rest l = length l.rest
