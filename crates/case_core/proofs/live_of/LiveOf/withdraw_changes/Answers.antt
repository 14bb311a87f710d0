use Rattle.case_core.proofs.{Common.{IfOk-weaker, Kept, LiveModel, Remarks, withdrawn, WithdrawsRight}, Marked.withdraw-remarks}
use Rattle.case_core.proofs.live_of.LiveOf.withdraw_changes.Goals as goal

pub returns-clause-changes : goal.returns-clause-changes
returns-clause-changes g c =
    let l : LiveModel = c.args.self.now in
    let kept : Kept l = c.base.ensures.kept in
    IfOk-weaker c.after_withdraw.result (WithdrawsRight (g.M.MarkReads.kept c.args.marks.now) c.args.node) (Remarks l (withdrawn c.args.node l.trail))
    (withdraw-remarks l kept kept.checked.rank kept.checked.ranked (g.M.MarkReads.kept c.args.marks.now) c.requires.marks c.args.node c.requires.runs) c.after_withdraw.ensures.changes
