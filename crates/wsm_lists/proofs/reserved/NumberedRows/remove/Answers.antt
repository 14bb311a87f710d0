use Rattle.wsm_lists.proofs.{Common.{◌∙◌, ◌≡◌, ap, Ascends, drop_row, false, first, is_some, item_at, row_at, rows_below, RowsWithRoom, rules, subst, sym, true}, ByNumber.is_some-map, Rows.{ascends_drop, drop_where_absent, place_within}}
use Rattle.wsm_lists.proofs.Rows.{remove_where_there}
use Rattle.wsm_lists.proofs.reserved.NumberedRows.remove.Goals as goal

pub remove-requires : goal.remove-requires
remove-requires g c =
    let items = c.self.inside.rows.items in
    let there : is_some (row_at first (c.args.number, 0) items) ≡ true =
    sym (is_some-map (λ r. r.1) (row_at first (c.args.number, 0) items)) ∙ ap (λ xs. is_some (item_at c.args.number xs)) (sym c.deref.ensures.value) ∙ sym c.has.ensures ∙ c.if-has.true in
    let at = c.place_of-at.ensures ∙ ap (rows_below first (c.args.number, 0)) c.deref-then-has.ensures.value in
    let within = place_within first (c.args.number, 0) items c.self.invariant there in
    search rules

pub returns-then-has-clause-rows : goal.returns-then-has-clause-rows
returns-then-has-clause-rows g c =
    let items = c.self.inside.rows.items in
    let there : is_some (row_at first (c.args.number, 0) items) ≡ true =
    sym (is_some-map (λ r. r.1) (row_at first (c.args.number, 0) items)) ∙ ap (λ xs. is_some (item_at c.args.number xs)) (sym c.deref.ensures.value) ∙ sym c.has.ensures ∙ c.if-has.true in
    let at = c.place_of-at.ensures ∙ ap (rows_below first (c.args.number, 0)) c.deref-then-has.ensures.value in
    c.remove.ensures.items ∙ rw at (sym (remove_where_there first (c.args.number, 0) items c.self.invariant there))
    ∙ ap (λ (v : RowsWithRoom g.row.T.Denot). drop_row first (c.args.number, 0) v.rows) c.self.view_is

pub returns-else-has-clause-rows : goal.returns-else-has-clause-rows
returns-else-has-clause-rows g c =
    let items = c.self.inside.rows.items in
    let absent : is_some (row_at first (c.args.number, 0) items) ≡ false =
    sym (is_some-map (λ r. r.1) (row_at first (c.args.number, 0) items)) ∙ ap (λ xs. is_some (item_at c.args.number xs)) (sym c.deref.ensures.value) ∙ sym c.has.ensures ∙ c.if-has.false in
    ap (λ (v : RowsWithRoom g.row.T.Denot). v.rows) (sym c.self.view_is)
    ∙ sym (drop_where_absent first (c.args.number, 0) items absent)
    ∙ ap (λ (v : RowsWithRoom g.row.T.Denot). drop_row first (c.args.number, 0) v.rows) c.self.view_is

pub invariant_of-self : goal.invariant_of-self
invariant_of-self g c =
    let items = c.self.inside.rows.items in
    let new : c.remove.new.self.items ≡ drop_row first (c.args.number, 0) items =
    returns-then-has-clause-rows g c ∙ ap (λ (v : RowsWithRoom g.row.T.Denot). drop_row first (c.args.number, 0) v.rows) (sym c.self.view_is) in
    subst (Ascends first) (sym new) (ascends_drop first (c.args.number, 0) items c.self.invariant)
