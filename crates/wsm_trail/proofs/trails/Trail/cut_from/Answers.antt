use Rattle.wsm_trail.proofs.{Common.{ℕ, ◌++◌, ◌∙◌, ◌≡◌, ap, Ascends, cut_by, cut_entries, drop, Entry, first, List, noted_until, Rises, rows_below, rows_below_le, rules, StaysBelow, subst, sym, take, TrailWithRoom}, Cutting.cut-above}
use Rattle.wsm_trail.proofs.{Cutting.rises_cut, LateNotes.noted_until-cut, Rising.rises-ascends}
use Rattle.wsm_trail.proofs.trails.Trail.cut_from.Goals as goal

-- the entries that are left
cut_list : (c : goal.After-cut_behind) → c.cut_behind.new.entries.items ≡ cut_entries c.args.body.now c.self.inside.entries.items
cut_list c =
    let body : List ℕ = c.args.body.now in
    let es : List (ℕ × Entry) = c.self.inside.entries.items in
    let stays : StaysBelow c.args.position body es = subst (λ (t : TrailWithRoom). StaysBelow c.args.position body t.trail.entries) (sym c.self.view_is) c.requires in
    c.cut_behind.ensures.entries
    ∙ ap (λ (b : List ℕ). take c.place_of-place.result es ++ cut_entries b (drop c.place_of-place.result es)) c.as_slice.ensures
    ∙ ap (λ (n : ℕ). take n es ++ cut_entries body (drop n es)) (c.place_of-place.ensures ∙ ap (rows_below first (c.args.position, 0)) c.deref.ensures.value)
    ∙ cut-above body c.args.position es stays

pub place_of-place-requires : goal.place_of-place-requires
place_of-place-requires c = subst (Ascends first) (sym c.deref.ensures.value) (rises-ascends 1 c.self.inside.next c.self.inside.entries.items c.self.invariant.0)

pub cut_behind-requires : goal.cut_behind-requires
cut_behind-requires c =
    let es : List (ℕ × Entry) = c.self.inside.entries.items in
    let at = c.place_of-place.ensures ∙ ap (rows_below first (c.args.position, 0)) c.deref.ensures.value in
    let within = rows_below_le first (c.args.position, 0) es in
    search rules

pub invariant_of-self : goal.invariant_of-self
invariant_of-self c =
    let es : List (ℕ × Entry) = c.self.inside.entries.items in
    let kept = c.self.invariant in
    let left = sym (cut_list c) in (
      subst (Rises 1 c.self.inside.next) left (rises_cut c.args.body.now 1 c.self.inside.next es kept.0),
      kept.1,
      kept.2 ∙ sym (noted_until-cut c.args.body.now c.self.inside.noted es) ∙ ap (noted_until c.self.inside.noted) left,
    )

pub returns-clause-trail : goal.returns-clause-trail
returns-clause-trail c = rw (cut_list c) (ap (λ (k : TrailWithRoom). cut_by c.args.body.now k.trail) c.self.view_is)
