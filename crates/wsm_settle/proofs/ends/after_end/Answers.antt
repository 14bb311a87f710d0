use Rattle.wsm_settle.proofs.{Common.{◌∙◌, ap, EndsRight, mark_or, subst, sym}, Begins.{ends-right, reaches-own, reaches-walk}, Results.if_ok}
use Rattle.wsm_settle.proofs.ends.after_end.Goals as goal

pub returns-in_err-changes-clause-few : goal.returns-in_err-changes-clause-few
returns-in_err-changes-clause-few g c = reaches-own c.args.flat.now c.args.rank.now c.args.node (g.M.MarkReads.reads c.args.marks.now) (g.M.MarkReads.reads c.get.new.self) c.get.ensures.count

pub returns-in_err-pending-clause-few : goal.returns-in_err-pending-clause-few
returns-in_err-pending-clause-few g c = reaches-own c.args.flat.now c.args.rank.now c.args.node (g.M.MarkReads.reads c.args.marks.now) (g.M.MarkReads.reads c.get.new.self) c.get.ensures.count

pub returns-in_err-walk-clause-few : goal.returns-in_err-walk-clause-few
returns-in_err-walk-clause-few g c =
    reaches-walk c.args.flat.now c.args.rank.now c.args.node (g.M.MarkReads.reads c.args.marks.now) (g.M.MarkReads.reads c.get.new.self) (g.M.MarkReads.reads c.walk.new.marks) c.in_ok-pending.pending.keys
    c.get.ensures.count c.in_ok-pending.ensures.handed c.walk.ensures.few

pub returns-clause-few : goal.returns-clause-few
returns-clause-few g c =
    reaches-walk c.args.flat.now c.args.rank.now c.args.node (g.M.MarkReads.reads c.args.marks.now) (g.M.MarkReads.reads c.get.new.self) (g.M.MarkReads.reads c.walk.new.marks) c.in_ok-pending.pending.keys
    c.get.ensures.count c.in_ok-pending.ensures.handed c.walk.ensures.few

pub returns-clause-changes : goal.returns-clause-changes
returns-clause-changes g c =
    let kept = g.M.MarkReads.kept c.args.marks.now in
    let right =
    ends-right c.args.flat.now c.args.rank.now c.args.node kept (g.M.MarkReads.kept c.get.new.self) c.get.ensures.same c.args.position c.args.choice c.or_blank-mark.result c.in_ok-changes.changes c.walk.new.changes
    c.in_ok-pending.pending.keys (c.or_blank-mark.ensures ∙ ap mark_or c.get.ensures.mark) c.in_ok-changes.ensures c.in_ok-pending.ensures.handed c.in_ok-walk.ensures.walked in
    if_ok _ (EndsRight c.args.flat.now c.args.rank.now kept c.args.node c.args.position c.args.choice)
    (λ changes is. subst (EndsRight c.args.flat.now c.args.rank.now kept c.args.node c.args.position c.args.choice) (sym is) right) c.into_table.result c.into_table.ensures
