use Rattle.adept_server.proofs.{Common.{◌∙◌, AreOf, RowMet, subst, sym, with_items_is}, RowsMet.{met_in_vecs, met_before}}
use Rattle.adept_server.proofs.all_rows.meet_row.Goals as goal

pub meet_rows-requires-clause-cells : goal.meet_rows-requires-clause-cells
meet_rows-requires-clause-cells g c κs within = (subst (AreOf c.args.cells.now) (sym c.deref_mut.ensures.value) c.requires.one, subst (AreOf c.args.cells.now) (sym c.deref_mut-2.ensures.value) c.requires.two)

pub returns : goal.returns
returns g c =
    let m = g.M.Machine in
    let e = c.meet_rows.ensures in
    let met : RowMet m.after m.reply c.args.cells.now c.deref_mut.result.now c.deref_mut-2.result.now c.meet_rows.new.one c.meet_rows.new.two = record { of_one = e.cells.0; of_two = e.cells.1; one = e.one; two = e.two; more_of_one = e.more_of_one; more_of_two = e.more_of_two; legal = e.legal } in
    met_in_vecs (met_before met c.deref_mut.ensures.value c.deref_mut-2.ensures.value) (with_items_is c.args.one.now c.meet_rows.new.one (c.meet_rows.auto.one ∙ c.deref_mut.ensures.len)) (with_items_is c.args.two.now c.meet_rows.new.two (c.meet_rows.auto.two ∙ c.deref_mut-2.ensures.len))
