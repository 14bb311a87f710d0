use Rattle.wsm_lists.proofs.{Common.{◌+◌, ◌∙◌, ◌≤◌, arith, length, sym}, Rows.{rows_below_le, rows_below-next, filter-run}}
use Rattle.wsm_lists.proofs.tables.run_of.Goals as goal

pub split_at-requires : goal.split_at-requires
split_at-requires g c = rw c.place_of-from.ensures (rows_below_le g.K.Keys.key_of (c.args.number, 0) c.args.rows.now)

pub overflow_sub-to : goal.overflow_sub-to
overflow_sub-to g c = rw (c.place_of-from.ensures, c.end_of-to.ensures) (rows_below-next g.K.Keys.key_of c.args.number c.args.rows.now)

pub split_at-requires-2 : goal.split_at-requires-2
split_at-requires-2 g c =
    let within : c.end_of-to.result ≤ length c.args.rows.now = rw c.end_of-to.ensures (rows_below_le g.K.Keys.key_of (c.args.number + 1, 0) c.args.rows.now) in
    let rest = c.split_at.ensures.back_len in
    omega (arith, within, rest)

pub returns : goal.returns
returns g c =
    c.split_at-2.ensures.front ∙ rw (c.split_at.ensures.back, c.place_of-from.ensures, c.end_of-to.ensures) (sym (filter-run g.K.Keys.key_of c.args.number c.args.rows.now c.requires))
