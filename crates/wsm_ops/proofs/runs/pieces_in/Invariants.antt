use Rattle.wsm_ops.proofs.Common.{◌++◌, ◌≡◌, drop, joined}
use Rattle.wsm_ops.proofs.runs.pieces_in.Given as goal

-- the pieces so far, and those of the runs that are left
abbrev pub invariant-loop-run : goal.invariant-loop-run
invariant-loop-run l = l.all.items ++ joined (drop l.run-index l.runs) ≡ joined l.runs
