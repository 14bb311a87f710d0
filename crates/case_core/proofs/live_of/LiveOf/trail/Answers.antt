use Rattle.case_core.proofs.{Common.{Kept, LiveModel, subst}, TrailFacts.once-each}
use Rattle.case_core.proofs.live_of.LiveOf.trail.Goals as goal

pub returns-clause-once : goal.returns-clause-once
returns-clause-once g c =
    let l : LiveModel = c.args.self.now in
    once-each l (subst Kept c.self.view_is c.self.invariant.0)
