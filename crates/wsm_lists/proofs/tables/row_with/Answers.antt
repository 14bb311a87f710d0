use Rattle.wsm_lists.proofs.{Common.{◌∙◌, ap, option_copied, refl, sym}, Rows.{row_at-found, row_at-absent}}
use Rattle.wsm_lists.proofs.tables.row_with.Goals as goal

pub returns-in-None : goal.returns-in-None
returns-in-None g c =
    let none = sym c.item_at.ensures ∙ ap option_copied c.in-None.is in
    sym (row_at-absent g.K.Keys.key_of c.args.key c.args.rows.now c.args.at c.requires.place c.requires.ascends (rw none refl))

pub returns-then-is_same : goal.returns-then-is_same
returns-then-is_same g c =
    let there = sym c.item_at.ensures ∙ ap option_copied c.in-Some.is in
    sym (row_at-found g.K.Keys.key_of c.args.key c.args.rows.now c.args.at c.in-Some.row.now c.requires.place there (rw (← c.key.ensures) (sym c.if-is_same.ensures)))

pub returns-else-is_same : goal.returns-else-is_same
returns-else-is_same g c =
    let there = sym c.item_at.ensures ∙ ap option_copied c.in-Some.is in
    sym (row_at-absent g.K.Keys.key_of c.args.key c.args.rows.now c.args.at c.requires.place c.requires.ascends (rw there (rw (← c.key.ensures) (sym c.if-is_same.ensures))))
