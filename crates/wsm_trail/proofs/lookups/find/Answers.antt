use Rattle.wsm_trail.proofs.Common.{◌∙◌, ap, eq-eqb, eq_number, first, ne_eqb, option_copied, option_map, refl, row_at-absent, row_at-found, sym}
use Rattle.wsm_trail.proofs.lookups.find.Goals as goal

pub returns-then-row-number : goal.returns-then-row-number
returns-then-row-number g c =
    let row = c.in-Some.row.now in
    let there = sym c.row_at.ensures ∙ ap option_copied c.in-Some.is in
    let same = eq_number row.0 c.args.number ∙ eq-eqb row.0 c.args.number c.if-row-number.true in
    sym (ap (option_map (λ r. r.1)) (row_at-found first (c.args.number, 0) c.args.rows.now c.place_of-at.result row c.place_of-at.ensures there same))

pub returns-else-row-number : goal.returns-else-row-number
returns-else-row-number g c =
    let row = c.in-Some.row.now in
    let there = sym c.row_at.ensures ∙ ap option_copied c.in-Some.is in
    let other = eq_number row.0 c.args.number ∙ ne_eqb row.0 c.args.number c.if-row-number.false in
    sym (ap (option_map (λ r. r.1)) (row_at-absent first (c.args.number, 0) c.args.rows.now c.place_of-at.result c.place_of-at.ensures c.requires (rw there other)))

pub returns-in-None : goal.returns-in-None
returns-in-None g c =
    let none = sym c.row_at.ensures ∙ ap option_copied c.in-None.is in
    sym (ap (option_map (λ r. r.1)) (row_at-absent first (c.args.number, 0) c.args.rows.now c.place_of-at.result c.place_of-at.ensures c.requires (rw none refl)))
