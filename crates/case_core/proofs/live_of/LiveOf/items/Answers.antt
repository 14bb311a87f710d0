use Rattle.case_core.proofs.{Common.{Ascends, first, KeepsItems, Kept, live_in, LiveModel, subst}, KeptItems.{held-are, items-are, keeps-of}}
use Rattle.case_core.proofs.live_of.LiveOf.items.Goals as goal

pub returns-clause-items : goal.returns-clause-items
returns-clause-items g c =
    let l : LiveModel = c.args.self.now in
    let kept : Kept l = subst Kept c.self.view_is c.self.invariant.0 in
    let k : LiveModel = live_in (g.T.TrailReads.kept c.self.inside.trail.now) c.self.inside.live.now in
    let keeps : KeepsItems l c.self.inside.live.now.items.rows = keeps-of k l c.self.view_is c.self.inside.live.now.marks.rows c.self.invariant.1.0 c.self.inside.live.now.items.rows c.self.invariant.1.1 in
    items-are l kept c.self.inside.live.now.items.rows keeps (subst (Ascends first) c.as_slice.ensures.rows c.as_slice.ensures.ascends)

pub returns-clause-held : goal.returns-clause-held
returns-clause-held g c =
    let l : LiveModel = c.args.self.now in
    let kept : Kept l = subst Kept c.self.view_is c.self.invariant.0 in
    let k : LiveModel = live_in (g.T.TrailReads.kept c.self.inside.trail.now) c.self.inside.live.now in
    let keeps : KeepsItems l c.self.inside.live.now.items.rows = keeps-of k l c.self.view_is c.self.inside.live.now.marks.rows c.self.invariant.1.0 c.self.inside.live.now.items.rows c.self.invariant.1.1 in
    held-are l kept c.self.inside.live.now.items.rows keeps
