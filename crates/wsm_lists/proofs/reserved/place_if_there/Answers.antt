use Rattle.wsm_lists.proofs.{Common.{◌∙◌, ap, first, option_copied, rows_below, sym}, Rows.row-place}
use Rattle.wsm_lists.proofs.reserved.place_if_there.Goals as goal

pub returns-then-row-number : goal.returns-then-row-number
returns-then-row-number g c =
    let row = c.in-Some.row.now in
    let there = sym c.row_at.ensures ∙ ap option_copied c.in-Some.is in
    row-place first c.args.rows.now c.args.at row c.requires there ∙ ap (λ n. rows_below first (n, 0) c.args.rows.now) c.if-row-number.true
