use Rattle.case_core.proofs.{Common.{ℕ, ◌∙◌, ap, first_seen, LiveModel, StaysBelow, subst, sym}, RoundStarts.stays-below}
use Rattle.case_core.proofs.live_of.LiveOf.first_seen.Goals as goal

pub returns-clause-stays : goal.returns-clause-stays
returns-clause-stays g c =
    let l : LiveModel = c.args.self.now in
    let is = c.first_seen.ensures.first ∙ ap (λ rows. first_seen rows c.args.nodes.now c.next.result) c.requires.marks in
    subst (λ (p : ℕ). StaysBelow p c.args.nodes.now l.trail.entries) (sym is) (stays-below l c.base.ensures.kept c.args.nodes.now c.next.result)
