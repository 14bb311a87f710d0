use Rattle.wsm_lists.proofs.{Common.{Ascends, first, subst, sym}, Rows.ascends_put}
use Rattle.wsm_lists.proofs.reserved.NumberedRows.set.Goals as goal

pub invariant_of-self : goal.invariant_of-self
invariant_of-self g c = subst (Ascends first) (sym c.set_row.ensures.rows) (ascends_put first (c.args.number, c.args.item) c.self.inside.rows.items c.self.invariant)
