use Rattle.wsm_lists.proofs.{Common.{◌∙◌, ◌≡◌, Ascends, rules, subst, sym}, Rows.{place_within, remove_where_there, drop_where_absent, ascends_drop}}
use Rattle.wsm_lists.proofs.tables.Table.remove.Goals as goal

pub remove-requires : goal.remove-requires
remove-requires g c =
    let within = place_within g.K.Keys.key_of c.args.key c.args.self.now c.place-at.ensures.ascends (sym c.if-has.ensures) in
    search rules

pub returns-then-has : goal.returns-then-has
returns-then-has g c =
    let seen : c.self.inside.rows.items ≡ c.args.self.now = c.self.view_is in
    let new = remove_where_there g.K.Keys.key_of c.args.key c.args.self.now c.place-at.ensures.ascends (sym c.if-has.ensures) in
    c.remove.ensures.items ∙ rw (seen, c.place-at.ensures.place) (sym new)

pub returns-else-has : goal.returns-else-has
returns-else-has g c = sym (drop_where_absent g.K.Keys.key_of c.args.key c.args.self.now (sym c.if-has.ensures))

pub invariant_of-self : goal.invariant_of-self
invariant_of-self g c =
    subst (Ascends g.K.Keys.key_of) (sym (returns-then-has g c)) (ascends_drop g.K.Keys.key_of c.args.key c.args.self.now c.place-at.ensures.ascends)
