use Rattle.wsm_trail.proofs.Common.{◌∙◌, ◌≡◌, ap, false, first, insert_where_absent, is_some, is_some-map, item_at, place_within, row_at, rows_below, rows_below_le, rules, set_where_there, sym, true}
use Rattle.wsm_trail.proofs.last_writes.put_row.Goals as goal

pub index_mut-requires : goal.index_mut-requires
index_mut-requires c =
    let items = c.args.rows.now.items in
    let there : is_some (row_at first (c.args.row.0, 0) items) ≡ true =
    sym (is_some-map (λ r. r.1) (row_at first (c.args.row.0, 0) items)) ∙ ap (λ xs. is_some (item_at c.args.row.0 xs)) (sym c.deref-2.ensures.value) ∙ sym c.has_row.ensures ∙ c.if-has_row.true in
    let at = c.place_of-at.ensures ∙ ap (rows_below first (c.args.row.0, 0)) c.deref.ensures.value in
    let within = place_within first (c.args.row.0, 0) items c.requires.ascends there in
    search rules

pub insert_row-requires-clause-place : goal.insert_row-requires-clause-place
insert_row-requires-clause-place c =
    let items = c.args.rows.now.items in
    let at = c.place_of-at.ensures ∙ ap (rows_below first (c.args.row.0, 0)) c.deref.ensures.value in
    let within = rows_below_le first (c.args.row.0, 0) items in
    search rules

pub returns-then-has_row-clause-rows : goal.returns-then-has_row-clause-rows
returns-then-has_row-clause-rows c =
    let items = c.args.rows.now.items in
    let there : is_some (row_at first (c.args.row.0, 0) items) ≡ true =
    sym (is_some-map (λ r. r.1) (row_at first (c.args.row.0, 0) items)) ∙ ap (λ xs. is_some (item_at c.args.row.0 xs)) (sym c.deref-2.ensures.value) ∙ sym c.has_row.ensures ∙ c.if-has_row.true in
    let at = c.place_of-at.ensures ∙ ap (rows_below first (c.args.row.0, 0)) c.deref.ensures.value in
    rw at (sym (set_where_there first c.args.row items c.requires.ascends there))

pub returns-else-has_row-clause-rows : goal.returns-else-has_row-clause-rows
returns-else-has_row-clause-rows c =
    let items = c.args.rows.now.items in
    let absent : is_some (row_at first (c.args.row.0, 0) items) ≡ false =
    sym (is_some-map (λ r. r.1) (row_at first (c.args.row.0, 0) items)) ∙ ap (λ xs. is_some (item_at c.args.row.0 xs)) (sym c.deref-2.ensures.value) ∙ sym c.has_row.ensures ∙ c.if-has_row.false in
    let at = c.place_of-at.ensures ∙ ap (rows_below first (c.args.row.0, 0)) c.deref.ensures.value in
    c.insert_row.ensures.rows ∙ rw at (sym (insert_where_absent first c.args.row items c.requires.ascends absent))
