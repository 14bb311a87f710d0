use Rattle.case_core.proofs.{Common.{◌∙◌, ◌≡◌, ap, CountedCase, IsLive, live_in, Some, subst, sym, TrailModel}, Copies.trail-of}
use Rattle.std.proofs.Common.{option_map}
use Rattle.case_core.proofs.instances.Instance+Trail.copy.Goals as goal

pub invariant_of-result-in-Some : goal.invariant_of-result-in-Some
invariant_of-result-in-Some c =
    let t : TrailModel = c.self.inside.trail.trail in
    let live : option_map (live_in t) c.self.inside.live ≡ Some c.in-Some.live = ap (λ (s : CountedCase). s.state.live) c.self.view_is ∙ (sym c.live.ensures.live ∙ c.in-Some.is) in
    let same : c.in-Some.live.trail ≡ c.in_ok-trail.trail.trail = sym (trail-of t c.self.inside.live c.in-Some.live live) ∙ sym c.in_ok-trail.ensures in
    subst (λ (u : TrailModel). IsLive u c.in_ok-copy-in-Some.field-0) same c.in_ok-copy-in-Some.ensures.kept
