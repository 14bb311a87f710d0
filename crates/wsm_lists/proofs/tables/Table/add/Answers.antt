use Rattle.wsm_lists.proofs.{Common.{◌∙◌, ◌≡◌, Ascends, false, rules, subst, sym}, Rows.{rows_below_le, insert_where_absent, ascends_put}}
use Rattle.wsm_lists.proofs.tables.Table.add.Goals as goal

pub insert-requires : goal.insert-requires
insert-requires g c =
    let key = g.K.Keys.key_of in
    let within = rows_below_le key (key c.args.row) c.args.self.now in
    search rules

pub returns-clause-ok : goal.returns-clause-ok
returns-clause-ok g c =
    let key = g.K.Keys.key_of in
    let seen : c.self.inside.rows.items ≡ c.args.self.now = c.self.view_is in
    let new = insert_where_absent key c.args.row c.args.self.now (subst (Ascends key) seen c.self.invariant) c.requires.absent in
    c.in_ok-insert.ensures.items ∙ rw (seen, c.requires.place) (sym new)

pub invariant_of-self-2 : goal.invariant_of-self-2
invariant_of-self-2 g c =
    let key = g.K.Keys.key_of in
    subst (Ascends key) (sym (returns-clause-ok g c)) (ascends_put key c.args.row c.args.self.now (subst (Ascends key) c.self.view_is c.self.invariant))
