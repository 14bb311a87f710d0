use Rattle.wsm_lists.proofs.{Common.{◌∙◌, ap, Ascends, drop_row, Keyed, put_over, rows_of, subst, sym}, Entries.{removed-entry, keyed-removed}, PutOver.over-drop, Rows.ascends_drop}
use Rattle.wsm_lists.proofs.growing.GrowingTable.remove.Goals as goal

pub invariant_of-self : goal.invariant_of-self
invariant_of-self g c = (
  subst (Keyed g.K.Keys.key_of) (sym c.remove-2.ensures.entries) (keyed-removed g.K.Keys.key_of c.args.key c.self.inside.more.entries c.self.invariant.0),
  subst (Ascends g.K.Keys.key_of) (sym (ap rows_of c.remove-2.ensures.entries ∙ removed-entry g.K.Keys.key_of c.args.key c.self.inside.more.entries c.self.invariant.0))
      (ascends_drop g.K.Keys.key_of c.args.key (rows_of c.self.inside.more.entries) c.self.invariant.1),
)

pub returns : goal.returns
returns g c =
    let key = g.K.Keys.key_of in
    let few = subst (Ascends key) c.as_slice.ensures.rows c.as_slice.ensures.ascends in
    let gone = ap rows_of c.remove-2.ensures.entries ∙ removed-entry key c.args.key c.self.inside.more.entries c.self.invariant.0 in
    ap (put_over key c.remove.new.self) gone
    ∙ ap (λ xs. put_over key xs (drop_row key c.args.key (rows_of c.self.inside.more.entries))) c.remove.ensures
    ∙ over-drop key c.args.key c.self.inside.few (rows_of c.self.inside.more.entries) few c.self.invariant.1
    ∙ ap (drop_row key c.args.key) c.self.view_is
