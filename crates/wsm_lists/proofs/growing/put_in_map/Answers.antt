use Rattle.wsm_lists.proofs.{Common.{◌∙◌, ◌≡◌, ap, insert_entry, Keyed, rows_of, subst, sym}, Entries.{pair_cmp, put-entry, keyed-entry}}
use Rattle.wsm_lists.proofs.growing.put_in_map.Goals as goal

pub returns-clause-rows : goal.returns-clause-rows
returns-clause-rows g c =
    let is : c.insert.new.self.entries ≡ insert_entry pair_cmp c.args.map.now.entries (g.K.Keys.key_of c.args.row) c.args.row =
    c.in_ok-insert.ensures.entries ∙ ap (λ k. insert_entry pair_cmp c.args.map.now.entries k c.args.row) c.key-key.ensures in
    ap rows_of is ∙ put-entry g.K.Keys.key_of c.args.row c.args.map.now.entries c.requires

pub returns-clause-keyed : goal.returns-clause-keyed
returns-clause-keyed g c =
    let is : c.insert.new.self.entries ≡ insert_entry pair_cmp c.args.map.now.entries (g.K.Keys.key_of c.args.row) c.args.row =
    c.in_ok-insert.ensures.entries ∙ ap (λ k. insert_entry pair_cmp c.args.map.now.entries k c.args.row) c.key-key.ensures in
    subst (Keyed g.K.Keys.key_of) (sym is) (keyed-entry g.K.Keys.key_of c.args.row c.args.map.now.entries c.requires)
