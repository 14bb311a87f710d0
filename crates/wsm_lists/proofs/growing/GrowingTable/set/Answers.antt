use Rattle.wsm_lists.proofs.{Common.{◌∙◌, ◌≡◌, ap, Ascends, false, is_some, put_over, put_row, row_at, rows_of, subst, sym}, PutOver.{on-ok, over-put, put-under}, Rows.ascends_put}
use Rattle.wsm_lists.proofs.growing.GrowingTable.set.Goals as goal

pub returns-then-goes_into_list-clause-ok : goal.returns-then-goes_into_list-clause-ok
returns-then-goes_into_list-clause-ok g c =
    let key = g.K.Keys.key_of in
    let rows = rows_of c.self.inside.more.entries in
    on-ok c.set.result (λ is. ap (λ xs. put_over key xs rows) is ∙ over-put key c.args.row c.self.inside.few rows c.self.invariant.1 ∙ ap (put_row key c.args.row) c.self.view_is) c.set.ensures.ok

pub invariant_of-self-2 : goal.invariant_of-self-2
invariant_of-self-2 g c =
    let key = g.K.Keys.key_of in
    let e = c.in_ok-put_in_map.ensures in
    (e.keyed, subst (Ascends key) (sym e.rows) (ascends_put key c.args.row (rows_of c.self.inside.more.entries) c.self.invariant.1))

pub returns-clause-ok : goal.returns-clause-ok
returns-clause-ok g c =
    let key = g.K.Keys.key_of in
    let rows = rows_of c.self.inside.more.entries in
    let absent : is_some (row_at key (key c.args.row) c.self.inside.few) ≡ false =
    ap (λ k. is_some (row_at key k c.self.inside.few)) (sym c.key.ensures) ∙ c.goes_into_list.ensures c.if-goes_into_list.false in
    ap (put_over key c.self.inside.few) c.in_ok-put_in_map.ensures.rows ∙ put-under key c.args.row c.self.inside.few rows c.self.invariant.1 absent ∙ ap (put_row key c.args.row) c.self.view_is
