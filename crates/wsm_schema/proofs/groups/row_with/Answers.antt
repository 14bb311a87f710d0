use Rattle.wsm_schema.proofs.{Common.{◌∙◌, ap, cond, eq-eqb, ne_eqb, None, option_copied, Some, sym}, Runs.{row_of, first-at_start}}
use Rattle.wsm_schema.proofs.groups.row_with.Goals as goal

pub returns-in-None : goal.returns-in-None
returns-in-None g c =
    let none = sym c.row_at.ensures ∙ ap option_copied c.in-None.is in
    ap (row_of c.args.number) (sym none) ∙ first-at_start c.args.number c.args.rows.now c.args.at c.requires.order c.requires.place

pub returns-then-row-number : goal.returns-then-row-number
returns-then-row-number g c =
    let there = sym c.row_at.ensures ∙ ap option_copied c.in-Some.is in
    sym (ap (λ b. cond b (Some c.in-Some.row.now) None) (eq-eqb c.in-Some.row.now.0 c.args.number c.if-row-number.true))
    ∙ ap (row_of c.args.number) (sym there) ∙ first-at_start c.args.number c.args.rows.now c.args.at c.requires.order c.requires.place

pub returns-else-row-number : goal.returns-else-row-number
returns-else-row-number g c =
    let there = sym c.row_at.ensures ∙ ap option_copied c.in-Some.is in
    sym (ap (λ b. cond b (Some c.in-Some.row.now) None) (ne_eqb c.in-Some.row.now.0 c.args.number c.if-row-number.false))
    ∙ ap (row_of c.args.number) (sym there) ∙ first-at_start c.args.number c.args.rows.now c.args.at c.requires.order c.requires.place
