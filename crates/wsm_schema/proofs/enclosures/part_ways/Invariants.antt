use Rattle.wsm_schema.proofs.Common.{◌≡◌, drop, part_ways}
use Rattle.wsm_schema.proofs.enclosures.part_ways.Given as goal

abbrev pub invariant-loop-i : goal.invariant-loop-i
invariant-loop-i l = part_ways (drop l.i l.a) (drop l.i l.b) ≡ part_ways l.a l.b
