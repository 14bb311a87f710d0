use Rattle.wsm_ops.proofs.Common.{◌≡◌, drop, has_head, joined}
use Rattle.wsm_ops.proofs.runs.has_head_in.Given as goal

-- it is in none of the runs so far
abbrev pub invariant-loop-run : goal.invariant-loop-run
invariant-loop-run l = has_head l.split l.code (joined (drop l.run-index l.runs)) ≡ has_head l.split l.code (joined l.runs)
