use Rattle.wsm_trail.proofs.{Common.{ℕ, ◌++◌, ◌+◌, ◌∙◌, ◌≡◌, ap, drop, Entry, IsStartPlace, length, List, noted_until, Rises, rules, Some, starts_of, subst, sym, take, TrailWithRoom, withdrawn, without_start}, LateNotes.noted_until-left}
use Rattle.wsm_trail.proofs.{Withdrawing.{place-left, rises-left}, trails.Trail.drop_start.Goals.{in-Start-1, in-End-1, in-Again-1, in-Wrote-1}}
use Rattle.wsm_trail.proofs.trails.Trail.drop_start.Goals as goal

-- the entries that are left
left : (k : TrailWithRoom) (n i : ℕ) (es new : List (ℕ × Entry)) → es ≡ k.trail.entries → length (starts_of n k.trail.entries) ≡ 1 → IsStartPlace n es (Some i) → new ≡ take i es ++ drop (i + 1) es → new ≡ without_start n es
left k n i es new is one at parts = parts ∙ place-left n es i at (subst (λ xs. length (starts_of n xs) ≡ 1) (sym is) one)

pub invariant_of-self : goal.invariant_of-self
invariant_of-self c =
    let es = c.self.inside.entries.items in
    let at : IsStartPlace c.args.node es (Some c.in-Some.place) = search rules in
    let here = left c.args.self.now c.args.node c.in-Some.place es c.remove.new.self.items (ap (λ (k : TrailWithRoom). k.trail.entries) c.self.view_is) c.requires.one at c.remove.ensures.by_index.2 in
    let kept = c.self.invariant in (
      subst (Rises 1 c.self.inside.next) (sym here) (rises-left c.args.node 1 c.self.inside.next es kept.0),
      kept.1,
      kept.2 ∙ sym (noted_until-left c.args.node c.self.inside.noted es) ∙ ap (noted_until c.self.inside.noted) (sym here),
    )

pub returns-in-Some-clause-trail : goal.returns-in-Some-clause-trail
returns-in-Some-clause-trail c =
    let es = c.self.inside.entries.items in
    let at : IsStartPlace c.args.node es (Some c.in-Some.place) = search rules in
    let here = left c.args.self.now c.args.node c.in-Some.place es c.remove.new.self.items (ap (λ (k : TrailWithRoom). k.trail.entries) c.self.view_is) c.requires.one at c.remove.ensures.by_index.2 in
    let is : record { entries = c.remove.new.self.items; next = c.self.inside.next } ≡ withdrawn c.args.node c.args.self.now.trail =
    ap (λ (xs : List (ℕ × Entry)). record { entries = xs; next = c.self.inside.next }) here ∙ ap (λ (k : TrailWithRoom). withdrawn c.args.node k.trail) c.self.view_is in
    elim c.match-remove.branch [
      | in-Start-1 w ↦ ap (λ (k : TrailWithRoom). k.trail) w.self-is ∙ is
      | in-End-1 w ↦ ap (λ (k : TrailWithRoom). k.trail) w.self-is ∙ is
      | in-Again-1 w ↦ ap (λ (k : TrailWithRoom). k.trail) w.self-is ∙ is
      | in-Wrote-1 w ↦ ap (λ (k : TrailWithRoom). k.trail) w.self-is ∙ is
    ]
