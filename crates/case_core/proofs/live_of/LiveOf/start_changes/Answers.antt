use Rattle.case_core.proofs.{Common.{◌∙◌, ◌≡◌, ap, flat_of, IfOk-weaker, Kept, LiveModel, StartRemarks, StartsRight, TrailModel}, Marked.start-remarks}
use Rattle.case_core.proofs.live_of.LiveOf.start_changes.Goals as goal

pub returns-clause-changes : goal.returns-clause-changes
returns-clause-changes g c =
    let l : LiveModel = c.args.self.now in
    let kept : Kept l = c.base.ensures.kept in
    let flat : c.flat.result.now ≡ flat_of l.schema = c.flat.ensures.flat ∙ ap flat_of c.checked.ensures in
    let position : c.next.result ≡ l.trail.next = c.next.ensures.next ∙ ap (λ (t : TrailModel). t.next) c.trail.ensures.trail in
    IfOk-weaker c.after_start.result (StartsRight c.flat.result.now (g.M.MarkReads.kept c.args.marks.now) c.args.node c.next.result) (StartRemarks l c.args.node)
    (start-remarks l kept kept.checked.rank kept.checked.ranked (g.M.MarkReads.kept c.args.marks.now) c.requires.marks c.flat.result.now flat c.next.result position c.args.node) c.after_start.ensures.changes
