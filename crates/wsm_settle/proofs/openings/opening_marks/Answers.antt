use Rattle.wsm_settle.proofs.{Common.{[], ◌∙◌, ap, changed, is_opening, Mark, MarksRight, RowsWithRoom, subst, Walks}, Handing.handed-within, FirstMarks.opening-right, Results.if_ok}
use Rattle.wsm_settle.proofs.openings.opening_marks.Goals as goal

pub walk-requires : goal.walk-requires
walk-requires c = record {
  within = handed-within c.args.rank.now 0 (is_opening c.args.flat.now.cards) [] c.in_ok-pending.pending.keys c.in_ok-pending.ensures (λ q none. absurd (cc));
}

pub returns : goal.returns
returns c =
    if_ok _ (λ (m : RowsWithRoom Mark). MarksRight c.args.flat.now c.args.rank.now [] m.rows)
    (λ m is. opening-right c.args.flat.now c.args.rank.now c.in_ok-pending.pending.keys c.in_ok-pending.ensures c.walk.new.changes
    (subst (λ b. Walks c.args.flat.now.cards c.args.rank.now [] c.in_ok-pending.pending.keys b [] c.walk.new.changes) c.new-changes.ensures c.in_ok-walk.ensures.walked) m.rows
    (is ∙ ap (λ cs. changed cs []) c.in_ok-into_table.ensures))
    c.taken_in.result c.taken_in.ensures
