use Rattle.adept_server.proofs.{Common.{[], ◌++◌, ◌∙◌, ◌≡◌, All, ap, AreOf, arith, CanSplit, length, nil_from_length, RowSplit, subst, sym, views, with_items_is}, RowsSplit.split_in_vecs}
use Rattle.adept_server.proofs.all_rows.split_row.Goals as goal

pub split_into-requires-clause-cells : goal.split_into-requires-clause-cells
split_into-requires-clause-cells g c κs within = subst (AreOf c.args.cells.now) (sym c.deref_mut.ensures.value) c.requires.cells

pub split_into-requires-clause-can : goal.split_into-requires-clause-can
split_into-requires-clause-can g c κs within = subst (λ ps. All CanSplit (views ps)) (sym c.deref_mut.ensures.value) c.requires.can

pub split_into-requires-clause-room : goal.split_into-requires-clause-room
split_into-requires-clause-room g c κs within = omega (arith, c.requires.empty, c.requires.room, ap length c.deref_mut.ensures.value, c.args.firsts.now.ok.0)

pub returns : goal.returns
returns g c =
    let m = g.M.Machine in
    let e = c.split_into.ensures in
    let new = e.new in
    let empty : c.args.into.now.items ≡ [] = nil_from_length c.args.into.now.items (omega (arith, c.args.into.now.ok.0, c.requires.empty)) in
    let split : RowSplit m.after m.reply c.args.cells.now c.deref_mut.result.now c.split_into.new.firsts new.0 = record { of = e.cells; of_new = new.2; firsts = e.firsts; new = new.3; legal = new.4 } in
    split_in_vecs split c.deref_mut.ensures.value (with_items_is c.args.firsts.now c.split_into.new.firsts (c.split_into.auto.firsts ∙ c.deref_mut.ensures.len)) (new.1 ∙ ap (λ xs. xs ++ new.0) empty)
