use Rattle.wsm_lists.proofs.{Common.{[], ◌∙◌, arith, Ascends, first, put_before, subst, sym}, TakenIn.{ascends-put_all, set-step}}
use Rattle.wsm_lists.proofs.taking.set_each.Goals as goal

pub loop-change-preserved : goal.loop-change-preserved
loop-change-preserved g c =
    let i = c.loop-change.invariant in
    let change = c.change-item.result in (
      subst (Ascends first) (sym c.set_change.ensures.rows) (ascends-put_all (put_before change.0 change.1 []) c.loop-change.rows.items i.0),
      set-step c.args.changes.now c.loop-change.change-index change c.loop-change-test.true c.change-item.is c.loop-change.rows.items c.set_change.new.rows.items c.set_change.ensures.rows ∙ i.1,
      omega (arith, c.set_change.ensures.len, i.2),
      omega (arith, c.set_change.ensures.capacity, i.3),
    )
