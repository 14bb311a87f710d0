use Rattle.wsm_lists.proofs.{Common.{◌∙◌, ◌≡◌, ap, false, first, is_some, item_at, row_at, rows_below, rules, sym, true}, ByNumber.is_some-map, Rows.{place_within, rows_below_le, set_where_there, insert_where_absent}}
use Rattle.wsm_lists.proofs.reserved.set_row.Goals as goal

pub index_mut-requires : goal.index_mut-requires
index_mut-requires g c =
    let items = c.args.rows.now.items in
    let there : is_some (row_at first (c.args.row.0, 0) items) ≡ true =
    sym (is_some-map (λ r. r.1) (row_at first (c.args.row.0, 0) items)) ∙ ap (λ xs. is_some (item_at c.args.row.0 xs)) (sym c.deref-2.ensures.value) ∙ sym c.is_there.ensures ∙ c.if-is_there.true in
    let at = c.place_of-at.ensures ∙ ap (rows_below first (c.args.row.0, 0)) c.deref.ensures.value in
    let within = place_within first (c.args.row.0, 0) items c.requires.ascends there in
    search rules

pub insert_row-requires-clause-place : goal.insert_row-requires-clause-place
insert_row-requires-clause-place g c =
    let items = c.args.rows.now.items in
    let at = c.place_of-at.ensures ∙ ap (rows_below first (c.args.row.0, 0)) c.deref.ensures.value in
    let within = rows_below_le first (c.args.row.0, 0) items in
    search rules

pub returns-then-is_there-clause-rows : goal.returns-then-is_there-clause-rows
returns-then-is_there-clause-rows g c =
    let items = c.args.rows.now.items in
    let there : is_some (row_at first (c.args.row.0, 0) items) ≡ true =
    sym (is_some-map (λ r. r.1) (row_at first (c.args.row.0, 0) items)) ∙ ap (λ xs. is_some (item_at c.args.row.0 xs)) (sym c.deref-2.ensures.value) ∙ sym c.is_there.ensures ∙ c.if-is_there.true in
    let at = c.place_of-at.ensures ∙ ap (rows_below first (c.args.row.0, 0)) c.deref.ensures.value in
    rw at (sym (set_where_there first c.args.row items c.requires.ascends there))

pub returns-else-is_there-clause-rows : goal.returns-else-is_there-clause-rows
returns-else-is_there-clause-rows g c =
    let items = c.args.rows.now.items in
    let absent : is_some (row_at first (c.args.row.0, 0) items) ≡ false =
    sym (is_some-map (λ r. r.1) (row_at first (c.args.row.0, 0) items)) ∙ ap (λ xs. is_some (item_at c.args.row.0 xs)) (sym c.deref-2.ensures.value) ∙ sym c.is_there.ensures ∙ c.if-is_there.false in
    let at = c.place_of-at.ensures ∙ ap (rows_below first (c.args.row.0, 0)) c.deref.ensures.value in
    c.insert_row.ensures.rows ∙ rw at (sym (insert_where_absent first c.args.row items c.requires.ascends absent))
