use Rattle.wsm_lists.proofs.{Common.{◌≡◌, Ascends, rules, subst, sym}, Rows.{place_within, set_where_there, ascends_put}}
use Rattle.wsm_lists.proofs.tables.Table.replace.Goals as goal

pub index_mut-requires : goal.index_mut-requires
index_mut-requires g c =
    let key = g.K.Keys.key_of in
    let within = place_within key (key c.args.row) c.args.self.now (subst (Ascends key) c.self.view_is c.self.invariant) c.requires.there in
    search rules

pub returns : goal.returns
returns g c =
    let key = g.K.Keys.key_of in
    let seen : c.self.inside.rows.items ≡ c.args.self.now = c.self.view_is in
    let new = set_where_there key c.args.row c.args.self.now (subst (Ascends key) seen c.self.invariant) c.requires.there in
    rw (seen, c.requires.place) (sym new)

pub invariant_of-self : goal.invariant_of-self
invariant_of-self g c =
    let key = g.K.Keys.key_of in
    subst (Ascends key) (sym (returns g c)) (ascends_put key c.args.row c.args.self.now (subst (Ascends key) c.self.view_is c.self.invariant))
