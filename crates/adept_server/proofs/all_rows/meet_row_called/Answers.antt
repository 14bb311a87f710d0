use Rattle.adept_server.proofs.{Common.{◌∙◌, AreOf, RowMet, subst, sym, with_items_is}, RowsMet.{level_before, legal_before, met_in_vecs, met_before}}
use Rattle.adept_server.proofs.all_rows.meet_row_called.Goals as goal

pub meet_called-requires-clause-cells : goal.meet_called-requires-clause-cells
meet_called-requires-clause-cells g c κs within = (subst (AreOf c.args.cells.now) (sym c.deref_mut.ensures.value) c.requires.one, subst (AreOf c.args.cells.now) (sym c.deref_mut-2.ensures.value) c.requires.two)

pub meet_called-requires-clause-level : goal.meet_called-requires-clause-level
meet_called-requires-clause-level g c κs within = level_before c.args.called.now c.requires.level c.deref_mut.ensures.value c.deref_mut-2.ensures.value

pub meet_called-requires-clause-legal : goal.meet_called-requires-clause-legal
meet_called-requires-clause-legal g c κs within = (legal_before c.requires.legal.0 c.deref_mut.ensures.value, legal_before c.requires.legal.1 c.deref_mut-2.ensures.value)

pub returns : goal.returns
returns g c =
    let m = g.M.Machine in
    let e = c.meet_called.ensures in
    let met : RowMet m.after m.reply c.args.cells.now c.deref_mut.result.now c.deref_mut-2.result.now c.meet_called.new.one c.meet_called.new.two = record { of_one = e.cells.0; of_two = e.cells.1; one = e.one; two = e.two; more_of_one = e.more_of_one; more_of_two = e.more_of_two; legal = e.legal } in
    met_in_vecs (met_before met c.deref_mut.ensures.value c.deref_mut-2.ensures.value) (with_items_is c.args.one.now c.meet_called.new.one (c.meet_called.auto.one ∙ c.deref_mut.ensures.len)) (with_items_is c.args.two.now c.meet_called.new.two (c.meet_called.auto.two ∙ c.deref_mut-2.ensures.len))
