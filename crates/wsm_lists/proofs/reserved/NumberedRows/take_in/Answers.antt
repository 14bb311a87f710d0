use Rattle.wsm_lists.proofs.{Common.{Ascends, first, subst, sym}, ByNumber.ascends-changed}
use Rattle.wsm_lists.proofs.reserved.NumberedRows.take_in.Goals as goal

pub invariant_of-self : goal.invariant_of-self
invariant_of-self g c = subst (Ascends first) (sym c.take_in.ensures.rows) (ascends-changed c.as_slice.result.now c.self.inside.rows.items c.self.invariant)
