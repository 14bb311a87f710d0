use Rattle.case_core.proofs.{Common.{IfOk, IsLive, LiveModel, subst}, Copies.live-copied}
use Rattle.case_core.proofs.live_of.LiveOf.copy.Goals as goal

pub returns-clause-kept : goal.returns-clause-kept
returns-clause-kept g c =
    let e = c.copy.ensures in
    subst (λ (l : LiveModel). IfOk c.copy.result (IsLive l.trail)) c.self.view_is
    (live-copied (g.T.TrailReads.kept c.self.inside.trail.now) c.self.inside.live.now c.copy.result c.self.invariant e.base e.own e.schema e.marks e.items)
