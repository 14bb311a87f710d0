use Rattle.wsm_trail.proofs.{Common.{◌+◌, ◌∙◌, ap, arith, noted_until, Rises, subst, sym}, LateNotes.noted_until-push, Rising.rises_push}
use Rattle.wsm_trail.proofs.trails.Trail.push.Goals as goal

pub invariant_of-self : goal.invariant_of-self
invariant_of-self c =
    let next = c.self.inside.next in
    let es = c.self.inside.entries.items in
    let kept = c.self.invariant in (
      subst (Rises 1 (next + 1)) (sym c.push_reserved.ensures.items) (rises_push 1 next es c.args.entry kept.0),
      omega (arith, kept.1),
      kept.2 ∙ sym (noted_until-push c.self.inside.noted next c.args.entry es kept.1) ∙ ap (noted_until c.self.inside.noted) (sym c.push_reserved.ensures.items),
    )
