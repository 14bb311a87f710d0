use Rattle.wsm_ops.proofs.Common.{◌+◌, ◌≡◌, applied, applied_from, drop}
use Rattle.wsm_ops.proofs.applications.apply.Given as goal

abbrev pub invariant-loop-i : goal.invariant-loop-i
invariant-loop-i l = applied_from (l.i + 1) l.draft (drop l.i l.op-items) ≡ applied l.schema l.op-items
