use Rattle.wsm_trail.proofs.Common.{Ascends, ascends_put, first, subst, sym}
use Rattle.wsm_trail.proofs.last_writes.LastWrites.put.Goals as goal

pub invariant_of-self : goal.invariant_of-self
invariant_of-self c = subst (Ascends first) (sym c.put_row.ensures.rows) (ascends_put first (c.args.element, c.args.position) c.self.inside.rows.items c.self.invariant)
