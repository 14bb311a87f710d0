use Rattle.wsm_schema.proofs.{Common.{◌∙◌, ap, has_number, not, refl, sym}, Runs.starts_behind}
use Rattle.wsm_schema.proofs.groups.starts_at.Goals as goal

pub returns-then-at-eq0 : goal.returns-then-at-eq0
returns-then-at-eq0 g c = rw c.if-at-eq0.true (c.has_number.ensures ∙ ap (has_number c.args.number) c.row_at.ensures)

pub returns-then-has_number : goal.returns-then-has_number
returns-then-has_number g c =
    let behind = starts_behind c.args.number c.args.rows.now c.args.at c.if-at-eq0.false in
    let here = ap (has_number c.args.number) (sym c.row_at-2.ensures) ∙ sym c.has_number-2.ensures ∙ c.if-has_number.true in
    let before = ap (has_number c.args.number) (sym c.row_at-then-has_number.ensures) ∙ sym c.has_number-then-has_number.ensures in
    sym (behind ∙ rw here (ap not before))

pub returns-else-has_number : goal.returns-else-has_number
returns-else-has_number g c =
    let behind = starts_behind c.args.number c.args.rows.now c.args.at c.if-at-eq0.false in
    let here = ap (has_number c.args.number) (sym c.row_at-2.ensures) ∙ sym c.has_number-2.ensures ∙ c.if-has_number.false in
    c.if-has_number.false ∙ sym (behind ∙ rw here refl)
