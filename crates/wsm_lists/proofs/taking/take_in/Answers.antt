use Rattle.wsm_lists.proofs.{Common.{◌∙◌, ap, filter, is_gone, item_at, not, put_all, puts_of, sym}, TakenIn.{all-stay, taken-in}}
use Rattle.wsm_lists.proofs.taking.take_in.Goals as goal

pub returns-then-drops_some-clause-rows : goal.returns-then-drops_some-clause-rows
returns-then-drops_some-clause-rows g c =
    c.drop_gone.ensures.rows ∙ ap (filter (λ r. not (is_gone (item_at r.0 c.args.changes.now)))) c.put_changes.ensures.rows
    ∙ taken-in c.args.changes.now c.args.rows.now.items c.requires.changes c.requires.rows

pub returns-else-drops_some-clause-rows : goal.returns-else-drops_some-clause-rows
returns-else-drops_some-clause-rows g c =
    c.put_changes.ensures.rows
    ∙ sym (all-stay c.args.changes.now (put_all (puts_of c.args.changes.now) c.args.rows.now.items) (sym c.drops_some.ensures ∙ c.if-drops_some.false))
    ∙ taken-in c.args.changes.now c.args.rows.now.items c.requires.changes c.requires.rows
