use Rattle.case_core.proofs.{Common.{◌≡◌, HolderStarted, LiveModel, rules, shown_holder, Some, subst, sym}, KeptItems.holder-started}
use Rattle.case_core.proofs.live_of.LiveOf.holder.Goals as goal

pub returns-in-Some-Held-clause-started : goal.returns-in-Some-Held-clause-started
returns-in-Some-Held-clause-started g c =
    let l : LiveModel = c.args.self.now in
    let is : Some c.in-Some-Held.user ≡ shown_holder (Some l) c.args.node = search rules in
    subst (HolderStarted (Some l) c.args.node) (sym is) (holder-started l c.base.ensures.kept c.args.node)
