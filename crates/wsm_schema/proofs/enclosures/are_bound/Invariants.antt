use Rattle.wsm_schema.proofs.Common.{◌≡◌, are_bound, drop}
use Rattle.wsm_schema.proofs.enclosures.are_bound.Given as goal

abbrev pub invariant-loop-i : goal.invariant-loop-i
invariant-loop-i l = are_bound (drop l.i l.a) (drop l.i l.b) ≡ are_bound l.a l.b
