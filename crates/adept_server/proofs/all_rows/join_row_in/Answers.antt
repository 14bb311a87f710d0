use Rattle.adept_server.proofs.{Common.{◌∙◌, All, AreOf, CanJoin, RowJoined, subst, sym, views, with_items_is}, RowsJoined.joined_in_vecs}
use Rattle.adept_server.proofs.all_rows.join_row_in.Goals as goal

pub join_row-requires-clause-cells : goal.join_row-requires-clause-cells
join_row-requires-clause-cells g c κs within = subst (AreOf c.args.cells.now) (sym c.deref_mut.ensures.value) c.requires.into

pub join_row-requires-clause-done : goal.join_row-requires-clause-done
join_row-requires-clause-done g c κs within = c.requires.done

pub join_row-requires-clause-can : goal.join_row-requires-clause-can
join_row-requires-clause-can g c κs within = subst (λ ps. All CanJoin (views ps)) (sym c.deref_mut.ensures.value) c.requires.can

pub returns : goal.returns
returns g c =
    let m = g.M.Machine in
    let e = c.join_row.ensures in
    let joined : RowJoined m.after m.reply c.args.cells.now c.deref_mut.result.now c.args.done.items c.join_row.new.into = record { of = e.cells; are = e.joined; more = e.more; legal = e.legal } in
    joined_in_vecs joined c.deref_mut.ensures.value (with_items_is c.args.into.now c.join_row.new.into (c.join_row.auto.into ∙ c.deref_mut.ensures.len))
