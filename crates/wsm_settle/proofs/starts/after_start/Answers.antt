use Rattle.wsm_settle.proofs.{Common.{[], ℕ, ◌++◌, ◌∙◌, ◌∷◌, ◌≡◌, ap, changed, flat_of, List, Mark, mark_or, marks_of, Option, Some, start-changes, StartsRight, subst, sym}, Results.if_ok}
use Rattle.wsm_schema.specs.declared.entries.Entry.TheVariants as entry
use Rattle.wsm_settle.proofs.starts.after_start.Goals as goal

pub returns-clause-changes : goal.returns-clause-changes
returns-clause-changes g c =
    let kept = g.M.MarkReads.kept c.args.marks.now in
    let mark = c.or_blank-mark.ensures ∙ ap mark_or c.get.ensures.mark in
    if_ok _ (StartsRight c.args.flat.now kept c.args.node c.args.position)
    (λ changes is s rank es user reads t flat_is now is_whole.
    subst (λ (cs : List (ℕ × Option Mark)). changed cs kept ≡ marks_of (flat_of s) (es ++ (c.args.position, entry.Start c.args.node user reads) ∷ []))
    (sym (is ∙ ap (λ (m : Mark). (c.args.node, Some (record m { started = Some c.args.position })) ∷ []) mark))
    (start-changes s rank es c.args.position kept now c.args.node user reads t is_whole))
    c.one_change.result c.one_change.ensures
