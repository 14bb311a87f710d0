use Rattle.wsm_settle.proofs.{Common.{[], ℕ, ◌∙◌, ◌∷◌, ◌≡◌, ap, changed, flat_of, List, Mark, mark_or, marks_of, None, Option, Some, subst, sym, WithdrawsRight}, Results.if_ok}
use Rattle.wsm_trail.specs.Withdrawn.{without_start}
use Rattle.wsm_walk.proofs.Withdrawals.{withdraw-changes}
use Rattle.wsm_settle.proofs.starts.after_withdraw.Goals as goal

pub returns-clause-changes : goal.returns-clause-changes
returns-clause-changes g c =
    let kept = g.M.MarkReads.kept c.args.marks.now in
    let mark = c.or_blank-mark.ensures ∙ ap mark_or c.get.ensures.mark in
    if_ok _ (WithdrawsRight kept c.args.node)
    (λ changes is s rank es p card now at running.
    subst (λ (cs : List (ℕ × Option Mark)). changed cs kept ≡ marks_of (flat_of s) (without_start c.args.node es))
    (sym (is ∙ ap (λ (m : Mark). (c.args.node, Some (record m { started = None })) ∷ []) mark))
    (withdraw-changes s rank es p kept now c.args.node card at running))
    c.one_change.result c.one_change.ensures
