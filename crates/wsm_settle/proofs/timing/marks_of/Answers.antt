use Rattle.wsm_settle.proofs.{Common.{[], ◌∙◌, ◌≡◌, ap, changed, eqb-true, length, Mark, MarksRight, places_from, rises-after, RisesAfter, RowsWithRoom, subst, sym, told_rows}, AllPlaces.all-visited, Results.if_ok, TrailMarks.marks-right}
use Rattle.std.proofs.lemmas.List.{nil_from_length}
use Rattle.wsm_settle.proofs.timing.marks_of.Goals as goal

pub returns-then-is_empty : goal.returns-then-is_empty
returns-then-is_empty c =
    let empty : c.args.trail.now.trail.entries ≡ [] = sym c.entries-entries.ensures.entries ∙ nil_from_length c.entries-entries.result.now (eqb-true (length c.entries-entries.result.now) 0 (sym c.is_empty.ensures ∙ c.if-is_empty.true)) in
    if_ok _ (λ (m : RowsWithRoom Mark). MarksRight c.args.flat.now c.args.rank.now c.args.trail.now.trail.entries m.rows)
    (λ m is. subst (λ es. MarksRight c.args.flat.now c.args.rank.now es m.rows) (sym empty) is)
    c.opening_marks.result c.opening_marks.ensures

pub returns : goal.returns
returns c =
    let es = c.args.trail.now.trail.entries in
    let rises : RisesAfter 0 es = subst (λ l. RisesAfter 0 l) c.entries-entries.ensures.entries (rises-after 0 c.args.trail.now.trail.next c.entries-entries.result.now c.entries-entries.ensures.rises) in
    if_ok _ (λ (m : RowsWithRoom Mark). MarksRight c.args.flat.now c.args.rank.now es m.rows)
    (λ m is. marks-right c.args.flat.now c.args.rank.now es rises (places_from 0 (length c.args.rank.now)) (all-visited c.args.rank.now) c.in_ok-changes.changes c.walk_all.new.changes
    (c.in_ok-changes.ensures ∙ ap (λ l. told_rows l []) c.entries-entries.ensures.entries) c.in_ok-walk_all.ensures.walked m.rows (is ∙ ap (λ cs. changed cs []) c.in_ok-into_table.ensures))
    c.taken_in.result c.taken_in.ensures
